-- Signs of whole numbers, and how large they are without one.
use Rattle.std.proofs.Common.{◌≡◌, ◌<◌, arith, ℤ, pos, negsuc, ◌-ℤ◌, ◌*ℤ◌, ◌≤ℤ◌, ◌<ℤ◌, unsigned_abs, refl, subst}
use Rattle.std.proofs.lemmas.Int.{ints}
use borrow.Author.Differences.{lt_out}
use Rattle.nomos_forms.proofs.WholeLaws.{count_times_le, count_times_lt}

pub abs_over : (t : ℤ) → pos 0 <ℤ t → pos (unsigned_abs t) ≡ t
abs_over (pos t) h = refl
abs_over (negsuc t) h = absurd (omega (arith, lt_out (pos 0) (negsuc t) h))

pub abs_positive : (t : ℤ) → pos 0 <ℤ t → 0 < unsigned_abs t
abs_positive (pos t) h = omega (arith, lt_out (pos 0) (pos t) h)
abs_positive (negsuc t) h = absurd (omega (arith, lt_out (pos 0) (negsuc t) h))

pub not_zero_over : (a : ℤ) → pos 0 <ℤ a → ¬ (a ≡ pos 0)
not_zero_over a h e = omega (arith, ints, lt_out (pos 0) a h)

pub minus_itself : (a b : ℤ) → a ≡ b → a -ℤ b ≡ pos 0
minus_itself a b h = omega (arith, ints)

pub one_times : (a b : ℤ) → a ≡ b → pos 1 *ℤ a ≡ b
one_times a b h = omega (arith, ints)

pub times_one : (z : ℤ) → z ≡ z *ℤ pos 1
times_one z = omega (arith, ints)

-- times a number over 0, the order stays
pub times_at_most : (t a b : ℤ) → pos 0 <ℤ t → a ≤ℤ b → (t *ℤ a) ≤ℤ (t *ℤ b)
times_at_most t a b over le =
    subst (λ z. (z *ℤ a) ≤ℤ (z *ℤ b)) (abs_over t over) (count_times_le (unsigned_abs t) a b le)

pub times_below : (t a b : ℤ) → pos 0 <ℤ t → a <ℤ b → (t *ℤ a) <ℤ (t *ℤ b)
times_below t a b over less =
    subst (λ z. (z *ℤ a) <ℤ (z *ℤ b)) (abs_over t over)
    (count_times_lt (unsigned_abs t) a b (abs_positive t over) less)
