-- Lists that are 0 outside the same places are in the order of what stands there.
use Rattle.std.proofs.Common.{◌≡◌, ◌∙◌, ◌+◌, ◌<◌, ◌≤◌, ℕ, zero, suc, ℤ, pos, List, [], ◌∷◌, length, get_or, take, drop, refl, ap, sym, arith}
use Rattle.std.specs.Cmp.Lexicographic.{slice_cmp}
use Rattle.std.specs.Ordering.{int_cmp, ordering_then}

-- the numbers in front of a place are 0, and those so many places behind it
abbrev Before : ℕ → List ℤ → Type 0
Before first xs = (k : ℕ) → k < first → get_or xs k (pos 0) ≡ pos 0

abbrev Behind : ℕ → ℕ → List ℤ → Type 0
Behind first count xs = (k : ℕ) → first + count ≤ k → get_or xs k (pos 0) ≡ pos 0

nothing : (first count : ℕ) → take {A = ℤ} count (drop first []) ≡ []
nothing zero zero = refl
nothing zero (suc count) = refl
nothing (suc first) zero = refl
nothing (suc first) (suc count) = refl

-- two lists whose first numbers are the same
same-first : (x y : ℤ) (xs ys : List ℤ) → x ≡ pos 0 → y ≡ pos 0
    → slice_cmp int_cmp (x ∷ xs) (y ∷ ys) ≡ slice_cmp int_cmp xs ys
same-first x y xs ys left right = λ p. ordering_then (int_cmp (left p) (right p)) (slice_cmp int_cmp xs ys)

pub cmp-between : (first count : ℕ) (xs ys : List ℤ) → length xs ≡ length ys → Before first xs → Before first ys
    → Behind first count xs → Behind first count ys
    → slice_cmp int_cmp xs ys ≡ slice_cmp int_cmp (take count (drop first xs)) (take count (drop first ys))
cmp-between first count [] [] long bx by ex ey =
    λ p. slice_cmp int_cmp (sym (nothing first count) p) (sym (nothing first count) p)
cmp-between first count [] (y ∷ ys) long bx by ex ey = absurd (omega (arith, long))
cmp-between first count (x ∷ xs) [] long bx by ex ey = absurd (omega (arith, long))
cmp-between zero zero (x ∷ xs) (y ∷ ys) long bx by ex ey =
    same-first x y xs ys (ex 0 (omega arith)) (ey 0 (omega arith))
    ∙ cmp-between zero zero xs ys (omega (arith, long)) (λ k below. absurd (omega (arith, below)))
    (λ k below. absurd (omega (arith, below))) (λ k over. ex (suc k) (omega (arith, over)))
    (λ k over. ey (suc k) (omega (arith, over)))
cmp-between zero (suc count) (x ∷ xs) (y ∷ ys) long bx by ex ey =
    ap (ordering_then (int_cmp x y))
    (cmp-between zero count xs ys (omega (arith, long)) (λ k below. absurd (omega (arith, below)))
    (λ k below. absurd (omega (arith, below))) (λ k over. ex (suc k) (omega (arith, over)))
    (λ k over. ey (suc k) (omega (arith, over))))
cmp-between (suc first) count (x ∷ xs) (y ∷ ys) long bx by ex ey =
    same-first x y xs ys (bx 0 (omega arith)) (by 0 (omega arith))
    ∙ cmp-between first count xs ys (omega (arith, long)) (λ k below. bx (suc k) (omega (arith, below)))
    (λ k below. by (suc k) (omega (arith, below))) (λ k over. ex (suc k) (omega (arith, over)))
    (λ k over. ey (suc k) (omega (arith, over)))
