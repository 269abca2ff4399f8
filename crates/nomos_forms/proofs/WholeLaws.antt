-- Laws of whole numbers: products over sums, order, and dividing by what is not 0.
use Rattle.std.proofs.Common.{◌≡◌, ℕ, zero, suc, ◌+◌, ◌*◌, ◌<◌, ◌≤◌, arith, pos, negsuc, ℤ, ◌+ℤ◌, ◌*ℤ◌, neg_ℤ, ◌≤ℤ◌, ◌<ℤ◌, ap, sym, refl, ◌∙◌}
use Rattle.std.proofs.lemmas.Int.{ints, by_lt_z}
use borrow.Author.Differences.{up, down, sum_is_lem, product_is, neg_is, le_out, lt_out}
use Rattle.std.proofs.Math.IntN.{*ℤ_comm}
use Rattle.std.proofs.Math.Nat.{mul-le-mul_left}

pub times_sum : (a b c : ℤ) → a *ℤ (b +ℤ c) ≡ a *ℤ b +ℤ a *ℤ c
times_sum a b c = let s = sum_is_lem b c in let x = ap (λ n. up a * n) s in let y = ap (λ n. down a * n) s in
    omega (arith, ints)

pub sum_times : (a b c : ℤ) → (a +ℤ b) *ℤ c ≡ a *ℤ c +ℤ b *ℤ c
sum_times a b c = let s = sum_is_lem a b in let x = ap (λ n. n * up c) s in let y = ap (λ n. n * down c) s in
    omega (arith, ints)

pub times_assoc : (a b c : ℤ) → (a *ℤ b) *ℤ c ≡ a *ℤ (b *ℤ c)
times_assoc a b c =
    let s = product_is a b in
    let s1 = ap (λ n. n * up c) s.0 in let s2 = ap (λ n. n * down c) s.0 in let s3 = ap (λ n. n * up c) s.1 in
    let s4 = ap (λ n. n * down c) s.1 in
    let t = product_is b c in
    let t1 = ap (λ n. up a * n) t.0 in let t2 = ap (λ n. down a * n) t.0 in let t3 = ap (λ n. up a * n) t.1 in
    let t4 = ap (λ n. down a * n) t.1 in
    omega (arith, ints)

pub times_neg : (a b : ℤ) → a *ℤ neg_ℤ b ≡ neg_ℤ (a *ℤ b)
times_neg a b =
    let s = neg_is b in
    let s1 = ap (λ n. up a * n) s.0 in let s2 = ap (λ n. down a * n) s.0 in let s3 = ap (λ n. up a * n) s.1 in
    let s4 = ap (λ n. down a * n) s.1 in
    omega (arith, ints)

pub neg_times : (a b : ℤ) → neg_ℤ a *ℤ b ≡ neg_ℤ (a *ℤ b)
neg_times a b = *ℤ_comm (neg_ℤ a) b ∙ times_neg b a ∙ ap neg_ℤ (*ℤ_comm b a)

pub times_swap : (a b c : ℤ) → a *ℤ (b *ℤ c) ≡ b *ℤ (a *ℤ c)
times_swap a b c = sym (times_assoc a b c) ∙ ap (λ z. z *ℤ c) (*ℤ_comm a b) ∙ times_assoc b a c

-- a count keeps an order
pub count_times_le : (t : ℕ) (a b : ℤ) → a ≤ℤ b → (pos t *ℤ a) ≤ℤ (pos t *ℤ b)
count_times_le t a b h = let le = le_out a b h in let more = mul-le-mul_left t le in omega (arith, ints)

-- and a count over 0 keeps and shows it
pub count_times_lt : (t : ℕ) (a b : ℤ) → 0 < t → a <ℤ b → (pos t *ℤ a) <ℤ (pos t *ℤ b)
count_times_lt t a b p h = let le : suc (up a + down b) ≤ up b + down a = lt_out a b h in
    let more = mul-le-mul_left t le in omega (arith, ints)

pub no_product_zero : (a b : ℤ) → ¬ (a ≡ pos 0) → a *ℤ b ≡ pos 0 → b ≡ pos 0
no_product_zero (pos zero) b n h = absurd (n refl)
no_product_zero (pos (suc a)) (pos zero) n h = refl
no_product_zero (pos (suc a)) (pos (suc b)) n h = absurd (omega (arith, ints))
no_product_zero (pos (suc a)) (negsuc b) n h = absurd (omega (arith, ints))
no_product_zero (negsuc a) (pos zero) n h = refl
no_product_zero (negsuc a) (pos (suc b)) n h = absurd (omega (arith, ints))
no_product_zero (negsuc a) (negsuc b) n h = absurd (omega (arith, ints))

-- a count over 0 is taken off both sides
pub count_cancel : (t : ℕ) (a b : ℤ) → 0 < t → pos t *ℤ a ≡ pos t *ℤ b → a ≡ b
count_cancel t a b h e = by_lt_z a b
    (λ lt. absurd (apart (pos t *ℤ a) (pos t *ℤ b) (count_times_lt t a b h lt) e))
    (λ le. by_lt_z b a (λ lt. absurd (apart (pos t *ℤ b) (pos t *ℤ a) (count_times_lt t b a h lt) (sym e)))
    (λ ge. both a b ge le))
  where
    apart : (x y : ℤ) → x <ℤ y → x ≡ y → ⊥
    apart x y lt same = omega (arith, ints)

    both : (x y : ℤ) → x ≤ℤ y → y ≤ℤ x → x ≡ y
    both x y le ge = omega (arith, ints)

-- a count over 0 shows an order
pub less_by_times : (m : ℕ) (a b : ℤ) → 0 < m → (pos m *ℤ a) ≤ℤ (pos m *ℤ b) → a ≤ℤ b
less_by_times m a b h le = by_lt_z b a
    (λ lt. absurd
    (omega (
      arith,
      lt_out (pos m *ℤ b) (pos m *ℤ a) (count_times_lt m b a h lt),
      le_out (pos m *ℤ a) (pos m *ℤ b)
          le,
    )))
    (λ le'. le')
