use Rattle.std.proofs.Common.{◌<◌, All, ap, sym, subst, ◌∙◌, arith}
use Rattle.std.specs.Int.{◌∣◌}
use Rattle.nomos_simplex.proofs.AmountLemmas.{common-divided_by_each}
use Rattle.nomos_simplex.specs.Exits.{common_denominator, denominator, IsFraction}
use Rattle.nomos_simplex.proofs.FractionLemmas.{some_is, common_over}
use Rattle.nomos_simplex.proofs.fractions.found.Goals as goal

pub amounts-requires-clause-over : goal.amounts-requires-clause-over
amounts-requires-clause-over c =
    let is = (some_is _ c.in-Some.unit _ c.in-Some.ensures).0 in
    subst (λ u. 0 < u) (sym is) (common_over 1 c.deref.result.now (omega arith) (subst (All IsFraction)
    (sym c.deref.ensures.value) c.in_ok-fractions.ensures.size))

pub amounts-requires-clause-whole : goal.amounts-requires-clause-whole
amounts-requires-clause-whole c =
    let is = (some_is _ c.in-Some.unit _ c.in-Some.ensures).0 in
    let same = c.deref-2.ensures.value ∙ sym c.deref.ensures.value in
    subst (λ u. All (λ f. denominator f ∣ u) c.deref-2.result.now) (ap (common_denominator 1) same
    ∙ sym is) (common-divided_by_each 1 c.deref-2.result.now)
