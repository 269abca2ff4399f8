-- How a gain and an expense change the form of an account.
use Rattle.std.proofs.Common.{◌≡◌, ◌≢◌, ◌<◌, ◌≤◌, ◌+◌, ◌-◌, ℕ, zero, suc, cond, List, ◌∷◌, map, replicate, get_or, set, ℤ, pos, ◌+ℤ◌, ◌-ℤ◌, ◌^◌, unsigned_abs, sum_by, ap, ap₂, sym, refl, ◌∙◌, arith, ne_eqb, eq-eqb}
use Rattle.std.proofs.lemmas.Int.{ints}
use Rattle.std.proofs.lemmas.List.FromFn.{get_or-map-range_with_len}
use Rattle.std.proofs.lemmas.List.Sums.{sum_by-cons}
use Rattle.std.specs.List.{range_with_len}
use Rattle.nomos_ir.specs.declared.amount.Amount.{Amount}
use Rattle.nomos_ir.specs.declared.amount.Amount.TheVariants.{Written, Star}
use Rattle.nomos_ir.specs.Amounts.{star_of}
use Rattle.nomos_forms.specs.declared.form.Form.{Form}
use Rattle.nomos_forms.specs.RowsOf.{share_of, units_in}
use mir.Syntax.{w64}
use mir.Val.{to_z, of_z}
use Rattle.nomos_check.specs.Account.{Account, gains, spends, shares, form_of, no_account}

-- ---- lists of the values of a function at consecutive numbers

map-same : {X : Type 0} (f g : ℕ → X) (a n : ℕ) → ((k : ℕ) → a ≤ k → f k ≡ g k)
    → map f (range_with_len a n) ≡ map g (range_with_len a n)
map-same f g a zero same = refl
map-same f g a (suc n) same =
    ap₂ (λ x xs. x ∷ xs) (same a (omega arith)) (map-same f g (a + 1) n (λ k above. same k (omega arith)))

map-set : {X : Type 0} (f g : ℕ → X) (a n i : ℕ) (y : X) → i < n → ((k : ℕ) → a + i ≡ k → y ≡ g k) → ((k : ℕ)
    → a ≤ k → a + i ≢ k → f k ≡ g k) → set (map f (range_with_len a n)) i y ≡ map g (range_with_len a n)
map-set f g a zero i y inside here others = absurd (omega arith)
map-set f g a (suc n) zero y inside here others =
    ap₂ (λ x xs. x ∷ xs) (here a (omega arith)) (map-same f g (a + 1) n (λ k above. others k (omega arith)
    (omega arith)))
map-set f g a (suc n) (suc i) y inside here others =
    ap₂ (λ x xs. x ∷ xs) (others a (omega arith) (omega arith))
    (map-set f g (a + 1) n i y (omega arith) (λ k at. here k (omega arith)) (λ k above other. others k (omega arith)
    (omega arith)))

-- ---- the share of an amount

share-own : (r : Amount) (star : ℕ) → star_of r ≡ star → share_of r star ≡ pos 1
share-own r star same = ap (λ t. cond t (pos 1) (pos 0)) (eq-eqb (star_of r) star same)

share-other : (r : Amount) (star : ℕ) → star_of r ≢ star → share_of r star ≡ pos 0
share-other r star other = ap (λ t. cond t (pos 1) (pos 0)) (ne_eqb (star_of r) star other)

-- ---- the coefficients of an account

-- what a star counts for in an account
abbrev pub coef_of : Account → ℕ → ℤ
coef_of a star = shares a.gained star -ℤ shares a.spent star

pub coef-gained : (r : Amount) (a : Account) (star : ℕ) → coef_of (gains r a) star ≡ coef_of a star +ℤ share_of r star
coef-gained r a star =
    let s = share_of r star in
    let g = shares a.gained star in
    let p = shares a.spent star in
    let sum : (s g p : ℤ) → (s +ℤ g) -ℤ p ≡ (g -ℤ p) +ℤ s = λ s g p. omega (arith, ints) in
    sum s g p

pub coef-spent : (r : Amount) (a : Account) (star : ℕ) → coef_of (spends r a) star ≡ coef_of a star -ℤ share_of r star
coef-spent r a star =
    let s = share_of r star in
    let g = shares a.gained star in
    let p = shares a.spent star in
    let sum : (s g p : ℤ) → g -ℤ (s +ℤ p) ≡ (g -ℤ p) -ℤ s = λ s g p. omega (arith, ints) in
    sum s g p

-- the units of an account
abbrev pub units_of : Account → ℤ
units_of a = pos (sum_by units_in a.gained) -ℤ pos (sum_by units_in a.spent)

pub units-gained : (r : Amount) (a : Account) → units_of (gains r a) ≡ units_of a +ℤ pos (units_in r)
units-gained r a = omega (arith, ints, sum_by-cons units_in r a.gained)

pub units-spent : (r : Amount) (a : Account) → units_of (spends r a) ≡ units_of a -ℤ pos (units_in r)
units-spent r a = omega (arith, ints, sum_by-cons units_in r a.spent)

abbrev Made : List ℤ → ℤ → Form
Made coefs plus = record { coefs = coefs; plus = plus }

module _ (n : ℕ) (a : Account) where
  -- units are gained and spent
  pub gained-written : (u : ℕ) (z : ℤ) → z ≡ units_of a +ℤ pos u
      → Made (form_of n a).coefs z ≡ form_of n (gains (Written u) a)
  gained-written u z is =
      let r : Amount = Written u in
      ap₂ Made
      (map-same (coef_of a) (coef_of (gains r a)) 1 n (λ k above. let none = share-other r k (λ same. absurd
      (omega arith)) in omega (arith, ints, coef-gained r a k, none)))
      (is ∙ sym (units-gained r a))

  pub spent-written : (u : ℕ) (z : ℤ) → z ≡ units_of a -ℤ pos u
      → Made (form_of n a).coefs z ≡ form_of n (spends (Written u) a)
  spent-written u z is =
      let r : Amount = Written u in
      ap₂ Made
      (map-same (coef_of a) (coef_of (spends r a)) 1 n (λ k above. let none = share-other r k (λ same. absurd
      (omega arith)) in omega (arith, ints, coef-spent r a k, none)))
      (is ∙ sym (units-spent r a))

  -- a star is gained and spent
  pub gained-star : (s : ℕ) (z d : ℤ) → 1 ≤ s → s ≤ n → z ≡ get_or (form_of n a).coefs (s - 1) d +ℤ pos 1
      → Made (set (form_of n a).coefs (s - 1) z) (form_of n a).plus ≡ form_of n (gains (Star s) a)
  gained-star s z d least most is =
      let r : Amount = Star s in
      let read = get_or-map-range_with_len (coef_of a) 1 n (s - 1) s d (omega arith) (omega arith) in
      ap₂ Made
      (map-set (coef_of a) (coef_of (gains r a)) 1 n (s - 1) z (omega arith)
      (λ k at. let one = share-own r k (omega arith) in let same : s ≡ k = omega arith in omega
      (arith, ints, coef-gained r a k, one, read, is, ap (coef_of a) same))
      (λ k above other. let none = share-other r k (omega arith) in omega (arith, ints, coef-gained r a k, none)))
      (omega (arith, ints, units-gained r a))

  pub spent-star : (s : ℕ) (z d : ℤ) → 1 ≤ s → s ≤ n → z ≡ get_or (form_of n a).coefs (s - 1) d -ℤ pos 1
      → Made (set (form_of n a).coefs (s - 1) z) (form_of n a).plus ≡ form_of n (spends (Star s) a)
  spent-star s z d least most is =
      let r : Amount = Star s in
      let read = get_or-map-range_with_len (coef_of a) 1 n (s - 1) s d (omega arith) (omega arith) in
      ap₂ Made
      (map-set (coef_of a) (coef_of (spends r a)) 1 n (s - 1) z (omega arith)
      (λ k at. let one = share-own r k (omega arith) in let same : s ≡ k = omega arith in omega
      (arith, ints, coef-spent r a k, one, read, is, ap (coef_of a) same))
      (λ k above other. let none = share-other r k (omega arith) in omega (arith, ints, coef-spent r a k, none)))
      (omega (arith, ints, units-spent r a))

-- ---- small numbers in 64 bits

pub sum-in_machine : (p q : ℤ) (u : ℕ) → q ≡ pos u → unsigned_abs p < 2 ^ 45 → u ≤ 1000000000
    → to_z w64 (of_z w64 (to_z w64 (of_z w64 p) +ℤ to_z w64 (of_z w64 q))) ≡ p +ℤ pos u
sum-in_machine p q u is small units = omega (arith, ints)

pub difference-in_machine : (p q : ℤ) (u : ℕ) → q ≡ pos u → unsigned_abs p < 2 ^ 45 → u ≤ 1000000000
    → to_z w64 (of_z w64 (to_z w64 (of_z w64 p) -ℤ to_z w64 (of_z w64 q))) ≡ p -ℤ pos u
difference-in_machine p q u is small units = omega (arith, ints)

pub more-in_machine : (p : ℤ) → unsigned_abs p < 2 ^ 45 → to_z w64 (of_z w64 (to_z w64
    (of_z w64 p) +ℤ pos 1)) ≡ p +ℤ pos 1
more-in_machine p small = omega (arith, ints)

pub less-in_machine : (p : ℤ) → unsigned_abs p < 2 ^ 45 → to_z w64 (of_z w64 (to_z w64
    (of_z w64 p) -ℤ pos 1)) ≡ p -ℤ pos 1
less-in_machine p small = omega (arith, ints)

-- ---- no potential

zeros-same : (a n : ℕ) → replicate n (pos 0) ≡ map (coef_of no_account) (range_with_len a n)
zeros-same a zero = refl
zeros-same a (suc n) = ap (λ l. pos 0 ∷ l) (zeros-same (a + 1) n)

pub none-form : (n : ℕ) (coefs : List ℤ) → coefs ≡ replicate n (pos 0) → Made coefs (pos 0) ≡ form_of n no_account
none-form n coefs is = ap₂ Made (is ∙ zeros-same 1 n) refl
