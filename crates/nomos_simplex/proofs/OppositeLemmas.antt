-- A line and its opposite are the same in lowest terms, and leave the same when they are put in or solved.
use Rattle.std.proofs.Common.{◌≡◌, ℕ, zero, suc, ◌<◌, Bool, true, false, cond, List, [], ◌∷◌, length, map, get_or, set, refl, ap, sym, subst, ◌∙◌, arith, ℤ, pos, negsuc, neg_ℤ, ◌-ℤ◌, ◌*ℤ◌, ◌<ℤ◌, unsigned_abs, int_lt, int_div}
use Rattle.std.proofs.lemmas.Int.{ints}
use Rattle.std.proofs.lemmas.List.{get_or-map, length-map, map-set}
use Rattle.std.proofs.lemmas.List.Elements.{All-map}
use borrow.Author.Differences.{below_in, lt-true, lt-false}
use Rattle.nomos_forms.proofs.WholeLaws.{neg_times, times_neg}
use Rattle.nomos_simplex.specs.Divisors.{gcd, common, signed_like, divided_by, in_lowest_terms}
use Rattle.nomos_simplex.specs.Exchange.{coef_at, solved_for, eliminated, put_into}
use Rattle.nomos_simplex.specs.Sizes.{IsNumber, HasNumbers}
use Rattle.nomos_simplex.specs.mirror.Opposite.{opposite_of, oriented_of}
use Rattle.nomos_simplex.specs.declared.table.TableLine.{TableLine}
use Rattle.nomos_simplex.proofs.DivisorLemmas.{signed_positive}

-- ---- lowest terms
pub abs_neg : (z : ℤ) → unsigned_abs (neg_ℤ z) ≡ unsigned_abs z
abs_neg (pos zero) = refl
abs_neg (pos (suc n)) = refl
abs_neg (negsuc n) = refl

pub neg_neg : (z : ℤ) → neg_ℤ (neg_ℤ z) ≡ z
neg_neg (pos zero) = refl
neg_neg (pos (suc n)) = refl
neg_neg (negsuc n) = refl

common_neg : (g : ℕ) (cs : List ℤ) → common g (map neg_ℤ cs) ≡ common g cs
common_neg g [] = refl
common_neg g (c ∷ cs) = ap (λ n. common (gcd g n) (map neg_ℤ cs)) (abs_neg c) ∙ common_neg (gcd g (unsigned_abs c)) cs

div_neg : (c d : ℤ) → int_div (neg_ℤ c) (neg_ℤ d) ≡ int_div c d
div_neg (pos zero) (pos zero) = refl
div_neg (pos zero) (pos (suc d)) = zero_div (suc d)
  where
    zero_div : (d : ℕ) → int_div (pos 0) (neg_ℤ (pos d)) ≡ int_div (pos 0) (pos d)
    zero_div zero = refl
    zero_div (suc d) = omega (arith, ints)
div_neg (pos zero) (negsuc d) = omega (arith, ints)
div_neg (pos (suc c)) (pos zero) = omega (arith, ints)
div_neg (pos (suc c)) (pos (suc d)) = refl
div_neg (pos (suc c)) (negsuc d) = refl
div_neg (negsuc c) (pos zero) = omega (arith, ints)
div_neg (negsuc c) (pos (suc d)) = refl
div_neg (negsuc c) (negsuc d) = refl

div_neg_all : (d : ℤ) (cs : List ℤ) → map (λ c. int_div c (neg_ℤ d)) (map neg_ℤ cs) ≡ map (λ c. int_div c d) cs
div_neg_all d [] = refl
div_neg_all d (c ∷ cs) = λ p. div_neg c d p ∷ div_neg_all d cs p

signed_neg : (z : ℤ) (g : ℕ) → ¬ (z ≡ pos 0) → signed_like (neg_ℤ z) g ≡ neg_ℤ (signed_like z g)
signed_neg (pos zero) g n = absurd (n refl)
signed_neg (pos (suc z)) g n = ap neg_ℤ (sym (signed_positive (pos (suc z)) g (below_in (pos 0) (pos (suc z))
    (omega arith))))
signed_neg (negsuc z) g n = signed_positive (pos (suc z)) g (below_in (pos 0) (pos (suc z)) (omega arith))
    ∙ sym (neg_neg (pos g))

pub opposite_lowest : (line : TableLine) → ¬ (line.times ≡ pos 0) →
    in_lowest_terms (opposite_of line) ≡ in_lowest_terms line
opposite_lowest line n =
    let g = common (unsigned_abs line.times) line.coefs in
    let d = signed_like line.times g in
    let same : common (unsigned_abs (neg_ℤ line.times)) (map neg_ℤ line.coefs) ≡ g =
    ap (λ a. common a (map neg_ℤ line.coefs)) (abs_neg line.times) ∙ common_neg (unsigned_abs line.times) line.coefs in
    let by : signed_like (neg_ℤ line.times) (common (unsigned_abs (neg_ℤ line.times)) (map neg_ℤ line.coefs))
    ≡ neg_ℤ d =
    ap (signed_like (neg_ℤ line.times)) same ∙ signed_neg line.times g n in
    ap (λ e. divided_by e (opposite_of line)) by
    ∙ (λ p. record line { times = div_neg line.times d p; coefs = div_neg_all d line.coefs p })

-- ---- the opposite put in, and solved
pub coef-opposite : (j : ℕ) (line : TableLine) → j < length line.coefs
    → coef_at j (opposite_of line) ≡ neg_ℤ (coef_at j line)
coef-opposite j line h = get_or-map neg_ℤ line.coefs j (pos 0) (pos 0) h

cross_neg : (p a g c : ℤ) → neg_ℤ p *ℤ a -ℤ g *ℤ neg_ℤ c ≡ neg_ℤ (p *ℤ a -ℤ g *ℤ c)
cross_neg p a g c = (λ q. neg_times p a q -ℤ times_neg g c q) ∙ both (p *ℤ a) (g *ℤ c)
  where
    both : (x y : ℤ) → neg_ℤ x -ℤ neg_ℤ y ≡ neg_ℤ (x -ℤ y)
    both x y = omega (arith, ints)

eliminated_neg : (p g : ℤ) (as' cs : List ℤ) → eliminated (neg_ℤ p) g as' (map neg_ℤ cs) ≡ map neg_ℤ
    (eliminated p g as' cs)
eliminated_neg p g [] cs = refl
eliminated_neg p g (a ∷ as') [] = refl
eliminated_neg p g (a ∷ as') (c ∷ cs) = λ q. cross_neg p a g c q ∷ eliminated_neg p g as' cs q

put_opposite : (j : ℕ) (left line : TableLine) → j < length left.coefs →
    put_into j (opposite_of left) line ≡ opposite_of (put_into j left line)
put_opposite j left line h =
    let p = coef_at j left in
    let g = coef_at j line in
    let is = coef-opposite j left h in
    let coefs = (λ q. set (eliminated (is q) g line.coefs (map neg_ℤ left.coefs)) j (times_neg g left.times q))
    ∙ (λ q. set (eliminated_neg p g line.coefs left.coefs q) j (neg_ℤ (g *ℤ left.times)))
    ∙ sym (map-set neg_ℤ (eliminated p g line.coefs left.coefs) j (g *ℤ left.times)) in
    λ q. record line { times = (ap (λ z. z *ℤ line.times) is ∙ neg_times p line.times) q; coefs = coefs q }

solved_opposite : (j e : ℕ) (left : TableLine) → j < length left.coefs →
    solved_for j e (opposite_of left) ≡ opposite_of (solved_for j e left)
solved_opposite j e left h =
    let coefs = sym (map-set neg_ℤ (map neg_ℤ left.coefs) j left.times) in
    λ q. record { times = coef-opposite j left h q; basic = e; coefs = coefs q }

pub put_turned : (j : ℕ) (left line : TableLine) → j < length left.coefs → ¬ ((put_into j left line).times ≡ pos 0) →
    in_lowest_terms (put_into j (opposite_of left) line) ≡ in_lowest_terms (put_into j left line)
put_turned j left line h n = ap in_lowest_terms (put_opposite j left line h) ∙ opposite_lowest (put_into j left line) n

-- ---- one of the two, with the coefficient of the column over 0
pub opposite_numbers : (line : TableLine) → HasNumbers line → HasNumbers (opposite_of line)
opposite_numbers line h = record {
  times = subst (λ n. n < 4611686018427387904) (sym (abs_neg line.times)) h.times;
  coefs = All-map IsNumber neg_ℤ line.coefs
      (λ k d l. subst (λ n. n < 4611686018427387904) (sym (abs_neg (get_or line.coefs k d))) (h.coefs k d l));
}

module _ (j : ℕ) (left : TableLine) (h : j < length left.coefs) (n : ¬ (coef_at j left ≡ pos 0)) where
  by_sign : (P : TableLine → Type 0) → P left → P (opposite_of left) → P (oriented_of j left)
  by_sign P own other = of_test (int_lt (coef_at j left) (pos 0))
    where
      of_test : (t : Bool) → P (cond t (opposite_of left) left)
      of_test true = other
      of_test false = own

  pub oriented_over : pos 0 <ℤ coef_at j (oriented_of j left)
  oriented_over = of_test (int_lt (coef_at j left) (pos 0)) refl
    where
      over : (z : ℤ) → int_lt z (pos 0) ≡ false → ¬ (z ≡ pos 0) → pos 0 <ℤ z
      over (pos zero) e m = absurd (m refl)
      over (pos (suc z)) e m = below_in (pos 0) (pos (suc z)) (omega arith)
      over (negsuc z) e m = absurd (omega (arith, ints, lt-false (negsuc z) (pos 0) e))

      under : (z : ℤ) → int_lt z (pos 0) ≡ true → pos 0 <ℤ neg_ℤ z
      under (pos z) e = absurd (omega (arith, lt-true (pos z) (pos 0) e))
      under (negsuc z) e = below_in (pos 0) (pos (suc z)) (omega arith)

      of_test : (t : Bool) → int_lt (coef_at j left) (pos 0) ≡ t → pos 0 <ℤ coef_at j (cond t (opposite_of left) left)
      of_test true e = subst (λ z. pos 0 <ℤ z) (sym (coef-opposite j left h)) (under (coef_at j left) e)
      of_test false e = over (coef_at j left) e n

  pub oriented_width : length (oriented_of j left).coefs ≡ length left.coefs
  oriented_width = by_sign (λ l. length l.coefs ≡ length left.coefs) refl (length-map left.coefs neg_ℤ)

  pub oriented_basic : (oriented_of j left).basic ≡ left.basic
  oriented_basic = by_sign (λ l. l.basic ≡ left.basic) refl refl

  pub oriented_numbers : HasNumbers left → HasNumbers (oriented_of j left)
  oriented_numbers m = by_sign HasNumbers m (opposite_numbers left m)

  pub put_oriented : (line : TableLine) → ¬ ((put_into j left line).times ≡ pos 0) →
      in_lowest_terms (put_into j (oriented_of j left) line) ≡ in_lowest_terms (put_into j left line)
  put_oriented line m = by_sign
      (λ l. in_lowest_terms (put_into j l line) ≡ in_lowest_terms (put_into j left line)) refl
      (ap in_lowest_terms (put_opposite j left line h) ∙ opposite_lowest (put_into j left line) m)

  pub solved_oriented : (e : ℕ) →
      in_lowest_terms (solved_for j e (oriented_of j left)) ≡ in_lowest_terms (solved_for j e left)
  solved_oriented e = by_sign
      (λ l. in_lowest_terms (solved_for j e l) ≡ in_lowest_terms (solved_for j e left)) refl
      (ap in_lowest_terms (solved_opposite j e left h) ∙ opposite_lowest (solved_for j e left) n)
