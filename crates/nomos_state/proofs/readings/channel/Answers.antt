use Rattle.std.proofs.Common.{◌∙◌, sym}
use Rattle.nomos_state.proofs.ChannelLemmas.{bound-in_channels}
use Rattle.nomos_state.proofs.readings.channel.Goals as goal

pub returns : goal.returns
returns c = c.get.ensures ∙ sym (bound-in_channels c.args.contents.now.channels.now c.args.pid c.args.v.0)
