-- Members of lists, of lists that are mapped, and of lists that are paired.
use Rattle.std.proofs.Common.{◌≡◌, ◌⊎◌, inl, inr, List, [], ◌∷◌, map, zip, Contains, refl, ap, arith}
use Rattle.nomos_types.proofs.OccurrenceLaws.{contains-cases}

-- the empty list has none
pub contains-none : {X : Type 0} (y : X) → Contains {X = X} [] y → ⊥
contains-none y there = omega (arith, there.1)

-- a list of one item has only that
pub contains-one : {X : Type 0} (x y : X) → Contains (x ∷ []) y → x ≡ y
contains-one {X} x y there =
    elim (contains-cases x y [] there) as (λ (_ : (x ≡ y) ⊎ Contains {X = X} [] y). x ≡ y) [
      | inl same
          ↦ same
      | inr rest ↦ absurd (contains-none y rest)
    ]

-- two lists that are mapped from one, paired
pub zip-maps : {X Y Z : Type 0} (f : X → Y) (g : X → Z) (xs : List X)
    → zip (map f xs) (map g xs) ≡ map (λ x. (f x, g x)) xs
zip-maps f g [] = refl
zip-maps f g (x ∷ xs) = ap (λ r. (f x, g x) ∷ r) (zip-maps f g xs)
