use Rattle.nomos_equality.proofs.SearchLemmas.{same-shapes}
use Rattle.nomos_equality.proofs.difference.find_difference.Goals as goal

pub returns-then-own-other : goal.returns-then-own-other
returns-then-own-other c =
    same-shapes c.args.program.now c.args.left c.args.right c.unfold-own.result c.unfold-other.result c.requires.formed
    c.unfold-own.ensures.unfolds c.unfold-other.ensures.unfolds c.if-own-other.true
