-- The greatest star number of amounts that stand one after another.
use Rattle.std.proofs.Common.{◌≡◌, ◌+◌, ◌<◌, ℕ, List, [], ◌∷◌, ◌++◌, length, get_or, take, max, map, arith, ap, sym, ◌∙◌}
use Rattle.std.specs.List.{flat_map}
use Rattle.std.proofs.lemmas.List.{take_more, map-append}
use Rattle.std.proofs.lemmas.Grind.{flat_map-append}
use Rattle.nomos_ir.specs.declared.amount.Amount.{Amount}
use Rattle.nomos_ir.specs.Amounts.{greatest, star_of, most_star}

-- the greatest of two lists is the greater of their greatest
pub greatest-append : (xs ys : List ℕ) → greatest (xs ++ ys) ≡ max (greatest xs) (greatest ys)
greatest-append [] ys = omega arith
greatest-append (x ∷ xs) ys = omega (arith, greatest-append xs ys)

-- the greatest star of amounts one after another
pub most_star-append : (xs ys : List Amount) → most_star (xs ++ ys) ≡ max (most_star xs) (most_star ys)
most_star-append xs ys = rw (map-append star_of xs ys) (greatest-append (map star_of xs) (map star_of ys))

-- one more item has its amounts after those before it, the item read with any default
pub most_star_more_at : {X : Type 0} (f : X → List Amount) (xs : List X) (i : ℕ) (d : X) → i < length xs
    → most_star (flat_map f (take (i + 1) xs))
    ≡ max (most_star (flat_map f (take i xs))) (most_star (f (get_or xs i d)))
most_star_more_at f xs i d inside =
    rw (
      take_more xs i d inside,
      flat_map-append f (take i xs) (get_or xs i d ∷ []),
      most_star-append (flat_map f (take i xs)) (f (get_or xs i d) ++ []),
      most_star-append (f (get_or xs i d)) [],
    )
    (omega arith)

-- one more item has its amounts after those before it
pub most_star_more : {X : Type 0} (f : X → List Amount) (xs : List X) (i : ℕ) (x : X) → x ≡ get_or xs i x
    → i < length xs → most_star (flat_map f (take (i + 1) xs))
    ≡ max (most_star (flat_map f (take i xs))) (most_star (f x))
most_star_more f xs i x is_there inside =
    most_star_more_at f xs i x inside
    ∙ sym (ap (λ y. max (most_star (flat_map f (take i xs))) (most_star (f y))) is_there)
