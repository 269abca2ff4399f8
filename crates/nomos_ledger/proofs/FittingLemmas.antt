-- Values that fit parameters, one by one.
use Rattle.std.proofs.Common.{◌≡◌, ◌<◌, ◌↔◌, ℕ, zero, suc, List, [], ◌∷◌, length, drop, refl, sym, subst, arith}
use Rattle.nomos_legal.specs.LineStarts.{OneEach, none, one}

module _ {X Y : Type 0} (R : X → Y → Type 0) where
  -- no value fits a parameter that is left
  pub one_each-short : (xs : List X) (ys : List Y) (k : ℕ) → xs ≡ [] → k < length ys → OneEach R xs (drop k ys) → ⊥
  one_each-short xs ys k xs_are within each = at ys k within (subst (λ zs. OneEach R zs (drop k ys)) xs_are each)
    where
      at : (ys : List Y) (k : ℕ) → k < length ys → OneEach R [] (drop k ys) → ⊥
      at [] k within each = omega (arith, within)
      at (y ∷ ys) zero within each = elim each [ ]
      at (y ∷ ys) (suc k) within each = at ys k (omega (arith, within)) each

  -- the first of both fit
  pub one_each-first : (xs more : List X) (ys rest : List Y) (x : X) (y : Y) → xs ≡ x ∷ more → ys ≡ y ∷ rest
      → OneEach R xs ys → R x y
  one_each-first xs more ys rest x y xs_are ys_are each =
      at (subst (λ zs. OneEach R zs (y ∷ rest)) xs_are (subst (OneEach R xs) ys_are each))
    where
      at : OneEach R (x ∷ more) (y ∷ rest) → R x y
      at (one first others) = first

  -- where the first of both fit, all do exactly where the others do
  pub one_each-others : (xs more : List X) (ys rest : List Y) (x : X) (y : Y) → xs ≡ x ∷ more → ys ≡ y ∷ rest → R x y
      → OneEach R xs ys ↔ OneEach R more rest
  one_each-others xs more ys rest x y xs_are ys_are fits = (
    λ each. at (subst (λ zs. OneEach R zs (y ∷ rest)) xs_are (subst (OneEach R xs) ys_are each)),
    λ others.
        subst (OneEach R xs) (sym ys_are) (subst (λ zs. OneEach R zs (y ∷ rest)) (sym xs_are) (one fits others)),
  )
    where
      at : OneEach R (x ∷ more) (y ∷ rest) → OneEach R more rest
      at (one first others) = others

  -- where no parameter is left, all values fit exactly where none is left
  pub one_each-end : (xs : List X) (ys : List Y) → ys ≡ [] → OneEach R xs ys ↔ (length xs ≡ 0)
  one_each-end xs ys ys_are = (
    λ each. none_left xs (subst (OneEach R xs) ys_are each),
    λ nothing. subst (OneEach R xs) (sym ys_are) (all_fit xs nothing),
  )
    where
      none_left : (xs : List X) → OneEach R xs [] → length xs ≡ 0
      none_left [] each = refl
      none_left (x ∷ xs) each = elim each [ ]

      all_fit : (xs : List X) → length xs ≡ 0 → OneEach R xs []
      all_fit [] nothing = none
      all_fit (x ∷ xs) nothing = absurd cc
