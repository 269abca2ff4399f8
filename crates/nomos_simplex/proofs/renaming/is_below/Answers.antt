use Rattle.std.proofs.Common.{rules, FitsSigned, int_lt, ◌∙◌}
use Rattle.std.specs.Int.{w128}
use Rattle.std.proofs.lemmas.Int.{to_z-of_z}
use Rattle.nomos_simplex.proofs.BelowLemmas.{below_by}
use Rattle.nomos_simplex.proofs.renaming.is_below.Goals as goal

pub returns : goal.returns
returns c = λ nonbasic e.
    let fits : FitsSigned w128 c.raised.result = search rules in
    (λ p. int_lt (to_z-of_z w128 c.args.over c.ranges.over p) (to_z-of_z w128 c.raised.result fits p))
    ∙ below_by c.args.rows.now nonbasic c.args.line.now c.args.variable c.args.over c.raised.result e c.raised.ensures
