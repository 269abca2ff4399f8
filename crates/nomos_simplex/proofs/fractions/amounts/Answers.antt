use Rattle.std.proofs.Common.{ℕ, ◌*◌, ◌/◌, ◌^◌, map, ap, ◌∙◌, arith}
use Rattle.std.specs.Prelude.{nat_lt}
use Rattle.std.proofs.lemmas.List.{length-map, get_or-map}
use Rattle.nomos_simplex.proofs.FractionLemmas.{none_large, list_all_fails}
use Rattle.nomos_simplex.proofs.fractions.amounts.Goals as goal

-- one of them is too large
pub returns-in-None : goal.returns-in-None
returns-in-None c =
    let fs = c.args.fractions.now in
    let i = c.loop-fraction.fraction-index in
    let part : ℕ × ℕ → ℕ = λ f. c.args.unit * f.0 / f.1 in
    let is = none_large _ _ c.in-None.ensures in
    list_all_fails (λ x. nat_lt x (2 ^ 62)) (map part fs) i 0 (omega (
      arith,
      length-map fs part,
      c.loop-fraction-test.true,
    )) (ap (λ x. nat_lt x (2 ^ 62)) (get_or-map part fs i
    (0, 0) 0 c.loop-fraction-test.true) ∙ is)
