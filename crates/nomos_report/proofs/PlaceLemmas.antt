-- What is printed of a list place by place.
use Rattle.std.proofs.Common.{◌≡◌, ◌∙◌, ℕ, zero, suc, ◌+◌, ◌≤◌, List, [], ◌∷◌, ◌++◌, length, take, slice_get, Some, None, ap, refl, sym, arith}
use Rattle.std.proofs.lemmas.List.{flat_map_more, take_all, take_more}
use Rattle.std.proofs.lemmas.Option.{get_or_from_slice_get, slice_get_within}
use Rattle.std.specs.List.{flat_map, zip}

module _ {X : Type 0} (lines : X → List ℕ) (before : List ℕ) (xs : List X) (n : ℕ) where
  -- behind what is printed of the first ones come the lines of the next one
  pub place-next : (x : X) → slice_get xs n ≡ Some x
      → (before ++ flat_map lines (take n xs)) ++ lines x ≡ before ++ flat_map lines (take (n + 1) xs)
  place-next x found =
      let more : take (n + 1) xs ≡ take n xs ++ x ∷ [] =
      take_more xs n x (slice_get_within xs n x found)
      ∙ ap (λ (y : X). take n xs ++ y ∷ []) (get_or_from_slice_get xs n x x found)
      in
      flat_map_more lines before (take n xs) x ∙ ap (λ (ys : List X). before ++ flat_map lines ys) (sym more)

  -- where no place is left, all is printed
  pub place-last : length xs ≤ n → before ++ flat_map lines (take n xs) ≡ before ++ flat_map lines xs
  place-last past = ap (λ (ys : List X). before ++ flat_map lines ys) (take_all n xs past)

-- a place without an element is past the end
pub place-past : {X : Type 0} (xs : List X) (n : ℕ) → slice_get xs n ≡ None → length xs ≤ n
place-past [] n none = omega arith
place-past (x ∷ xs) zero none = absurd cc
place-past (x ∷ xs) (suc n) none = let rest = place-past xs n none in omega (arith, rest)

-- ---- two lists side by side

pub zip-first : {X Y : Type 0} (xs : List X) (ys : List Y) (n : ℕ) → slice_get xs n ≡ None
    → slice_get (zip xs ys) n ≡ None
zip-first [] ys n none = refl
zip-first (x ∷ xs) [] n none = refl
zip-first (x ∷ xs) (y ∷ ys) zero none = absurd cc
zip-first (x ∷ xs) (y ∷ ys) (suc n) none = zip-first xs ys n none

pub zip-second : {X Y : Type 0} (xs : List X) (ys : List Y) (n : ℕ) → slice_get ys n ≡ None
    → slice_get (zip xs ys) n ≡ None
zip-second [] ys n none = refl
zip-second (x ∷ xs) [] n none = refl
zip-second (x ∷ xs) (y ∷ ys) zero none = absurd cc
zip-second (x ∷ xs) (y ∷ ys) (suc n) none = zip-second xs ys n none

pub zip-both : {X Y : Type 0} (xs : List X) (ys : List Y) (n : ℕ) (x : X) (y : Y) → slice_get xs n ≡ Some x
    → slice_get ys n ≡ Some y → slice_get (zip xs ys) n ≡ Some (x, y)
zip-both [] ys n x y one other = absurd cc
zip-both (w ∷ xs) [] n x y one other = absurd cc
zip-both {X} {Y} (w ∷ xs) (z ∷ ys) zero x y one other =
    let first : w ≡ x = cc in
    let second : z ≡ y = cc in
    ap (λ (p : X × Y). Some p) (λ i. (first i, second i))
zip-both (w ∷ xs) (z ∷ ys) (suc n) x y one other = zip-both xs ys n x y one other

-- a pair has no place past the first list
pub zip-within : {X Y : Type 0} (xs : List X) (ys : List Y) → length (zip xs ys) ≤ length xs
zip-within [] ys = omega arith
zip-within (x ∷ xs) [] = omega arith
zip-within (x ∷ xs) (y ∷ ys) = let rest = zip-within xs ys in omega (arith, rest)
