use Rattle.std.proofs.Common.{◌+◌, ◌∙◌, sym, subst}
use Rattle.nomos_state.specs.Copying.{AreChannelsBelow}
use Rattle.nomos_state.proofs.CopyLemmas.{channels-more, channels-same}
use Rattle.nomos_state.proofs.plain_data.push_channel.Goals as goal

pub returns-in_ok-push : goal.returns-in_ok-push
returns-in_ok-push c =
    let cells = c.args.contents.now.channels.now in
    let v = c.args.variable in
    subst (AreChannelsBelow cells c.args.pid (v + 1)) (sym c.in_ok-push.ensures.items)
    (channels-more cells c.args.pid v c.args.made.now.items c.requires c.in-Some.name
    (sym c.get.ensures ∙ c.in-Some.is))

pub returns-in_default : goal.returns-in_default
returns-in_default c =
    channels-same c.args.contents.now.channels.now c.args.pid c.args.variable c.args.made.now.items c.requires
    (sym c.get.ensures ∙ c.in_default.is)
