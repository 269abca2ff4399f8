use Rattle.std.proofs.Common.{◌<◌, unsigned_abs, ap, sym, subst, ◌∙◌}
use Rattle.std.specs.Int.{w128}
use Rattle.std.proofs.lemmas.Int.{to_z-of_z}
use native.Mathlib.Nat.{pos_of_dvd_of_pos}
use Rattle.nomos_simplex.proofs.DivisorLemmas.{gcd_is}
use Rattle.nomos_simplex.proofs.SignLemmas.{abs_positive}
use Rattle.nomos_simplex.proofs.goal_line.times_to_common.Goals as goal

pub nonzero_div-result : goal.nonzero_div-result
nonzero_div-result c =
    let a = c.unsigned_abs.result in
    let is = c.unsigned_abs.ensures.value ∙ ap unsigned_abs (to_z-of_z w128 c.args.a c.ranges.a) in
    let over : 0 < a = subst (λ n. 0 < n) (sym is) (abs_positive c.args.a c.requires.over) in
    subst (λ n. 0 < n) (sym c.greatest_divisor.ensures)
    (pos_of_dvd_of_pos (gcd_is a c.unsigned_abs-size.result).0 over)
