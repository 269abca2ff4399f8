use Rattle.std.proofs.Common.{◌≡◌, ◌+◌, ◌-◌, ℤ, pos, ◌*ℤ◌, ◌+ℤ◌, arith, ap, sym, ◌∙◌, to_z, of_z, get_or}
use Rattle.std.specs.Int.{w64, w128}
use Rattle.std.proofs.lemmas.Bool.{false≢true}
use Rattle.std.proofs.lemmas.Int.{ints, to_z-of_z, fits_signed_from_abs}
use Rattle.nomos_least.proofs.showing.add_up.Goals as goal

zero_first : (z : ℤ) → pos 0 +ℤ z ≡ z
zero_first z = omega (arith, ints)

pub returns-then-sum_for-wanted : goal.returns-then-sum_for-wanted
returns-then-sum_for-wanted c = (
  λ e. absurd (false≢true e),
  λ all.
      let before = c.loop-before.before in
      let goal_is = c.args.goal.now in
      let scale = pos c.args.scale in
      let is = all (before + 1) (omega arith) (omega arith) in
      let place : before ≡ before + 1 - 1 = omega arith in
      let coef = get_or goal_is.coefs (before + 1 - 1) (pos 0) in
      let same : get_or c.as_slice-coefs.result.now c.from.result (pos 0) ≡ coef =
      λ p. get_or (c.as_slice-coefs.ensures p) ((c.from.ensures ∙ place) p) (pos 0) in
      let small = c.requires.goal.coefs (before + 1 - 1) (pos 0) (omega (arith, c.requires.goal.width)) in
      let wanted = ap (λ z. pos 0 +ℤ scale *ℤ to_z w64 (of_z w64 z)) same
      ∙ ap (λ z. pos 0 +ℤ scale *ℤ z) (to_z-of_z w64 coef (fits_signed_from_abs w64 coef (omega (arith, small))))
      ∙ zero_first (scale *ℤ coef) in
      absurd (c.if-sum_for-wanted.true (ap (of_z w128) (c.sum_for.ensures ∙ is
      ∙ sym (c.add_product-wanted.ensures.value ∙ wanted)))),
)
