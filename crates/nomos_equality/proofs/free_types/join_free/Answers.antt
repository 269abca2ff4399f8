use Rattle.nomos_equality.proofs.FreeLemmas.{free-joined}
use Rattle.nomos_equality.proofs.free_types.join_free.Goals as goal

pub returns : goal.returns
returns c =
    free-joined c.args.program.now c.args.left c.args.right c.unfold-left.result c.unfold-right.result
    c.args.classes.now c.join.new.self c.join.result c.unfold-left.ensures.unfolds c.unfold-right.ensures.unfolds
    c.requires.shapes c.requires.nowhere c.requires.free c.join.ensures
