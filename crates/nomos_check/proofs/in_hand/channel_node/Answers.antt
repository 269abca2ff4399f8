use Rattle.std.proofs.Common.{sym}
use Rattle.nomos_check.specs.mirror.StandingData.{shape_of}
use Rattle.nomos_check.proofs.ChannelLaws.{channel-in_range, channel-unfolds, no-channel}
use Rattle.nomos_check.proofs.in_hand.channel_node.Goals as goal

pub unfold-requires-clause-in_range : goal.unfold-requires-clause-in_range
unfold-requires-clause-in_range c =
    channel-in_range c.args.program.now (shape_of c.args.now.now) c.args.c c.in-Some.t c.requires.formed.program
    c.requires.within.judgement c.requires.within.suits (sym c.in-Some.ensures)

pub returns-in-Some : goal.returns-in-Some
returns-in-Some c =
    channel-unfolds c.args.program.now (shape_of c.args.now.now) c.args.c c.in-Some.t c.unfold.result
    c.node.result.now (sym c.in-Some.ensures) c.unfold.ensures.unfolds c.node.ensures

pub returns-in-None : goal.returns-in-None
returns-in-None c = λ n. no-channel c.args.program.now (shape_of c.args.now.now) c.args.c n (sym c.in-None.ensures)
