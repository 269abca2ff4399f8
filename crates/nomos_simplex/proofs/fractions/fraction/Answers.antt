use Rattle.std.proofs.Common.{◌≡◌, ◌<◌, ◌==◌, ◌<ℤ◌, ℕ, ℤ, pos, All, length, unsigned_abs, ap, sym, subst, ◌∙◌, arith}
use Rattle.std.proofs.lemmas.Int.{ints}
use Rattle.nomos_forms.proofs.ProductLemmas.{wide_back}
use Rattle.nomos_simplex.specs.Exits.{fraction_in}
use Rattle.nomos_simplex.specs.Sizes.{IsLine, IsNumber}
use Rattle.nomos_simplex.specs.Tables.{bound_of}
use Rattle.nomos_simplex.specs.declared.table.TableLine.{TableLine}
use Rattle.nomos_simplex.specs.mirror.Keeping.{sum_of}
use Rattle.nomos_simplex.proofs.FractionLemmas.{found_in}
use Rattle.nomos_simplex.proofs.LineLemmas.{sum_of_bounds}
use Rattle.nomos_simplex.proofs.NumberLemmas.{number_back}
use Rattle.nomos_simplex.proofs.fractions.fraction.Goals as goal

pub sum_at_bounds-sum-requires : goal.sum_at_bounds-sum-requires
sum_at_bounds-sum-requires c =
    let line = c.in-Some.line.now in
    let is = (found_in (λ (l : TableLine). l.basic == c.args.star) (IsLine (length c.args.bounds.now)) c.args.lines.now
    line (sym c.in-Some.ensures) c.requires.lines).0 in
    let size = ap length c.as_slice.ensures in
    record {
      width = sym (size ∙ is.width);
      few = omega (arith, size, is.width, c.requires.few);
      bounds = c.requires.bounds;
      coefs = subst (All IsNumber) (sym c.as_slice.ensures) is.coefs;
    }

pub returns-in-Some-clause-value : goal.returns-in-Some-clause-value
returns-in-Some-clause-value c = λ rows nonbasic e.
    let line = c.in-Some.line.now in
    let is = (found_in (λ (l : TableLine). l.basic == c.args.star) (IsLine (length c.args.bounds.now)) c.args.lines.now
    line (sym c.in-Some.ensures) c.requires.lines).0 in
    let s = c.sum_at_bounds-sum in
    let value = s.ensures.value ∙ (λ p. sum_of (e p) (c.as_slice.ensures p))
    ∙ sum_of_bounds (bound_of rows) nonbasic line.coefs in
    let sum = c.unsigned_abs.ensures.value ∙ ap unsigned_abs (wide_back s.result (omega (arith, s.ensures.size))
    ∙ value) in
    let times = c.unsigned_abs-in-Some.ensures.value ∙ ap unsigned_abs (number_back line.times is.times) in
    (λ p. (sum p, times p)) ∙ ap (fraction_in rows nonbasic) c.in-Some.ensures

pub returns-in-Some-clause-size : goal.returns-in-Some-clause-size
returns-in-Some-clause-size c =
    let line = c.in-Some.line.now in
    let is = (found_in (λ (l : TableLine). l.basic == c.args.star) (IsLine (length c.args.bounds.now)) c.args.lines.now
    line (sym c.in-Some.ensures) c.requires.lines).0 in
    let s = c.sum_at_bounds-sum in
    let sum = c.unsigned_abs.ensures.value ∙ ap unsigned_abs (wide_back s.result (omega (arith, s.ensures.size))) in
    let times = c.unsigned_abs-in-Some.ensures.value ∙ ap unsigned_abs (number_back line.times is.times) in (
      omega (arith, sum, s.ensures.size),
      over c.unsigned_abs-in-Some.result line.times is.positive times,
      omega
          (arith, times, is.times),
    )
  where
    over : (n : ℕ) (z : ℤ) → pos 0 <ℤ z → n ≡ unsigned_abs z → 0 < n
    over n z h e = omega (arith, ints)
