use Rattle.std.proofs.Common.{rules, ◌≡◌, pos, ◌++◌, map, take, drop, set, get_or, FitsSigned, to_z, of_z, int_div, ap, ◌∙◌, arith}
use Rattle.std.specs.Int.{w128}
use Rattle.std.proofs.lemmas.Int.{to_z-of_z}
use Rattle.std.proofs.lemmas.List.{get_or_default}
use Rattle.std.proofs.lemmas.List.Edits.{map_over_more}
use Rattle.nomos_simplex.proofs.LineLemmas.{over_all}
use Rattle.nomos_simplex.proofs.divisors.divide_all.Goals as goal

-- one number more
pub loop-i-preserved : goal.loop-i-preserved
loop-i-preserved c =
    let i = c.loop-i.i in
    let now = c.loop-i.numbers in
    let by = to_z w128 (of_z w128 c.args.by) in
    let x = get_or now i (pos 0) in
    let fits_x : FitsSigned w128 x = search rules in
    let fits_q : FitsSigned w128 c.quotient.result = search rules in
    let value : to_z w128 (of_z w128 c.quotient.result) ≡ int_div x by =
    to_z-of_z w128 c.quotient.result fits_q ∙ c.quotient.ensures ∙ ap (λ z. int_div z by) (to_z-of_z w128 x fits_x) in
    ap (set now i) value ∙ map_over_more (λ z. int_div z by) c.args.numbers.now now i x c.loop-i-test.true
    c.loop-i.invariant (get_or_default now i (pos 0) x (omega (arith, c.loop-i.auto.numbers)))

pub returns : goal.returns
returns c =
    let back = to_z-of_z w128 c.args.by c.ranges.by in
    let all = over_all (λ z. int_div z c.args.by) c.args.numbers.now c.loop-i.i c.loop-i-test.false in
    c.loop-i.invariant ∙ (λ p. map (λ z. int_div z (back p)) (take c.loop-i.i c.args.numbers.now) ++ drop c.loop-i.i
    c.args.numbers.now) ∙ all
