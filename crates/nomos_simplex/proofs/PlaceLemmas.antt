-- What the foremost place that passes, and the lowest, say of the places.
use Rattle.std.proofs.Common.{◌≡◌, ℕ, zero, suc, ◌<◌, ◌≤◌, Bool, true, false, cond, ap, refl, sym, subst, ◌∙◌, arith, ◌⊎◌, inl, inr, ⊎_elim, Option, Some, None}
use Rattle.std.specs.Prelude.{nat_lt}
use Rattle.std.proofs.lemmas.Bool.{cases_lt, ltb-true, ltb-false, false≢true}
use Rattle.nomos_simplex.specs.LowestVariable.{former_of, foremost_place, lowest_place}

none_step : (t : Bool) (n : ℕ) (before : Option ℕ) → cond t (Some n) before ≡ None → (t ≡ false) × (before ≡ None)
none_step true n before e = cc
none_step false n before e = (refl, e)

none_at : (passes : ℕ → Bool) (is_former : ℕ → ℕ → Bool) (n : ℕ) → foremost_place passes is_former n ≡ None → (k : ℕ) →
    k < n → passes k ≡ false
none_at passes is_former zero e k h = absurd (omega arith)
none_at passes is_former (suc n) e k h =
    let both =
    none_step (passes n) (former_of is_former n (foremost_place passes is_former n)) (foremost_place passes is_former n)
    e in
    ⊎_elim (λ less. none_at passes is_former n both.1 k less)
    (λ more. let same : n ≡ k = omega arith in subst (λ m. passes m ≡ false) same both.0) (cases_lt k n)

either_place : (is_former : ℕ → ℕ → Bool) (n m : ℕ) (before : Option ℕ) → former_of is_former n before ≡ m →
    (n ≡ m) ⊎ (before ≡ Some m)
either_place is_former n m None e = inl e
either_place is_former n m (Some k) e = of_test (is_former n k) e
  where
    of_test : (t : Bool) → cond t n k ≡ m → (n ≡ m) ⊎ (Some k ≡ Some m)
    of_test true e = inl e
    of_test false e = inr (ap Some e)

some_step : (t : Bool) (n m : ℕ) (before : Option ℕ) → cond t (Some n) before ≡ Some m →
    ((t ≡ true) × (n ≡ m)) ⊎ (before ≡ Some m)
some_step true n m before e = inl (refl, cc)
some_step false n m before e = inr e

pub foremost_passes : (passes : ℕ → Bool) (is_former : ℕ → ℕ → Bool) (n m : ℕ) →
    foremost_place passes is_former n ≡ Some m → (m < n) × (passes m ≡ true)
foremost_passes passes is_former zero m e = cc
foremost_passes passes is_former (suc n) m e = ⊎_elim
    (λ here. ⊎_elim
    (λ same. (omega (arith, same), subst (λ k. passes k ≡ true) same here.0))
    (λ there. let rest = foremost_passes passes is_former n m there in (omega (arith, rest.0), rest.1))
    (either_place is_former n m (foremost_place passes is_former n) here.1))
    (λ there. let rest = foremost_passes passes is_former n m there in (omega (arith, rest.0), rest.1))
    (some_step (passes n) (former_of is_former n (foremost_place passes is_former n)) m
    (foremost_place passes is_former n) e)

pub none_foremost : (passes : ℕ → Bool) (is_former : ℕ → ℕ → Bool) (n : ℕ) →
    foremost_place passes is_former n ≡ None → (k : ℕ) → k < n → passes k ≡ false
none_foremost = none_at

-- of the lowest place
pub none_passes : (passes : ℕ → Bool) (number : ℕ → ℕ) (n : ℕ) → lowest_place passes number n ≡ None → (k : ℕ) →
    k < n → passes k ≡ false
none_passes passes number = none_at passes (λ i k. nat_lt (number i) (number k))

pub place_passes : (passes : ℕ → Bool) (number : ℕ → ℕ) (n m : ℕ) → lowest_place passes number n ≡ Some m →
    (m < n) × (passes m ≡ true)
place_passes passes number = foremost_passes passes (λ i k. nat_lt (number i) (number k))

-- ---- the foremost place is at most each other that passes, by an order that the test of who comes first keeps
module _ (passes : ℕ → Bool) (is_former : ℕ → ℕ → Bool) (AtMost : ℕ → ℕ → Type 0)
    (same : (i : ℕ) → AtMost i i)
    (former : (i k : ℕ) → is_former i k ≡ true → AtMost i k)
    (latter : (i k : ℕ) → is_former i k ≡ false → AtMost k i)
    (through : (i k m : ℕ) → passes k ≡ true → AtMost i k → AtMost k m → AtMost i m) where
  one_of_two : (n m m' : ℕ) (t : Bool) → is_former n m' ≡ t → passes m' ≡ true →
      ((k : ℕ) → k < n → passes k ≡ true → AtMost m' k) → cond t n m' ≡ m → (k : ℕ) → k < suc n → passes k ≡ true →
      AtMost m k
  one_of_two n m m' true f p rest e k h pk = ⊎_elim
      (λ less. subst (λ i. AtMost i k) e (through n m' k p (former n m' f) (rest k less pk)))
      (λ more. let here : n ≡ k = omega arith in subst (λ i. AtMost i k) e (subst (AtMost n) here (same n)))
      (cases_lt k n)
  one_of_two n m m' false f p rest e k h pk = ⊎_elim
      (λ less. subst (λ i. AtMost i k) e (rest k less pk))
      (λ more. let here : n ≡ k = omega arith in
      subst (λ i. AtMost i k) e (subst (AtMost m') here (latter n m' f)))
      (cases_lt k n)

  among : (n m : ℕ) (before : Option ℕ) → before ≡ foremost_place passes is_former n →
      ((m' : ℕ) → before ≡ Some m' → (k : ℕ) → k < n → passes k ≡ true → AtMost m' k) →
      former_of is_former n before ≡ m → (k : ℕ) → k < suc n → passes k ≡ true → AtMost m k
  among n m None b rest e k h pk = ⊎_elim
      (λ less. absurd (false≢true (sym (none_at passes is_former n (sym b) k less) ∙ pk)))
      (λ more. let here : n ≡ k = omega arith in subst (λ i. AtMost i k) e (subst (AtMost n) here (same n)))
      (cases_lt k n)
  among n m (Some m') b rest e k h pk =
      one_of_two n m m' (is_former n m') refl (foremost_passes passes is_former n m' (sym b)).1
      (λ i l pi. rest m' refl i l pi) e k h pk

  step : (n m : ℕ) (t : Bool) → passes n ≡ t →
      ((m' : ℕ) → foremost_place passes is_former n ≡ Some m' → (k : ℕ) → k < n → passes k ≡ true → AtMost m' k) →
      cond t (Some (former_of is_former n (foremost_place passes is_former n)))
      (foremost_place passes is_former n) ≡ Some m → (k : ℕ) → k < suc n → passes k ≡ true → AtMost m k
  step n m true p rest e k h pk = among n m (foremost_place passes is_former n) refl rest (out e) k h pk
    where
      out : {i k : ℕ} → Some i ≡ Some k → i ≡ k
      out e = cc
  step n m false p rest e k h pk = ⊎_elim
      (λ less. rest m e k less pk)
      (λ more. let here : n ≡ k = omega arith in
      absurd (false≢true (sym p ∙ subst (λ i. passes i ≡ true) (sym here) pk)))
      (cases_lt k n)

  pub foremost-at_most : (n m : ℕ) → foremost_place passes is_former n ≡ Some m → (k : ℕ) → k < n →
      passes k ≡ true → AtMost m k
  foremost-at_most zero m e k h pk = absurd (omega arith)
  foremost-at_most (suc n) m e k h pk = step n m (passes n) refl (λ m' e'. foremost-at_most n m' e') e k h pk

-- of the lowest place, by its number
pub lowest-at_most : (passes : ℕ → Bool) (number : ℕ → ℕ) (n m : ℕ) → lowest_place passes number n ≡ Some m →
    (k : ℕ) → k < n → passes k ≡ true → number m ≤ number k
lowest-at_most passes number = foremost-at_most passes (λ i k. nat_lt (number i) (number k))
    (λ i k. number i ≤ number k)
    (λ i. omega arith)
    (λ i k h. omega (arith, ltb-true (number i) (number k) h))
    (λ i k h. ltb-false (number i) (number k) h)
    (λ i k m p a b. omega (arith, a, b))
