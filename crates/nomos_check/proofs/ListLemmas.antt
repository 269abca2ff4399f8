-- Elements of lists that are mapped, found at a place, or parts of a list of lists.
use Rattle.std.proofs.Common.{◌<◌, zero, suc, List, [], ◌∷◌, length, map, Contains, zip, ap, ◌∙◌, sym, subst, arith}
use Rattle.std.specs.List.{flat_map}
use Rattle.std.proofs.lemmas.List.{length-map, get_or-map}
use Rattle.std.proofs.lemmas.List.Elements.{Contains-append_left, Contains-append_right}

-- what an element is mapped to is an element of the mapped list
pub contains-map : {X Y : Type 0} (f : X → Y) (xs : List X) (x : X) → Contains xs x → Contains (map f xs) (f x)
contains-map f xs x there =
    let inside : there.0 < length (map f xs) = rw length-map there.1 in
    (there.0, inside, get_or-map f xs there.0 x (f x) there.1 ∙ ap f there.2)

-- an element of the list of one element is an element of the lists of all
pub contains-inside : {X Y : Type 0} (g : X → List Y) (xs : List X) (x : X) (y : Y) → Contains xs x → Contains (g x) y
    → Contains (flat_map g xs) y
contains-inside g [] x y (i, inside, is) there = absurd (omega arith)
contains-inside g (z ∷ xs) x y (zero, inside, is) there =
    Contains-append_left (g z) (flat_map g xs) y (subst (λ w. Contains (g w) y) (sym is) there)
contains-inside g (z ∷ xs) x y (suc i, inside, is) there =
    Contains-append_right (g z) (flat_map g xs) y (contains-inside g xs x y (i, omega arith, is) there)

-- the first of a pair of two lists is in the first list
pub paired-first : {X Y : Type 0} (xs : List X) (ys : List Y) (x : X) (y : Y) → Contains (zip xs ys) (x, y)
    → Contains xs x
paired-first [] ys x y (i, inside, is) = absurd (omega arith)
paired-first (a ∷ xs) [] x y (i, inside, is) = absurd (omega arith)
paired-first {X} {Y} (a ∷ xs) (b ∷ ys) x y (zero, inside, is) = (0, omega arith, ap (λ (p : X × Y). p.0) is)
paired-first (a ∷ xs) (b ∷ ys) x y (suc i, inside, is) =
    let (at, within, found) = paired-first xs ys x y (i, omega arith, is) in
    (suc at, omega arith, found)

-- the second is in the second list
pub paired-second : {X Y : Type 0} (xs : List X) (ys : List Y) (x : X) (y : Y) → Contains (zip xs ys) (x, y)
    → Contains ys y
paired-second [] ys x y (i, inside, is) = absurd (omega arith)
paired-second (a ∷ xs) [] x y (i, inside, is) = absurd (omega arith)
paired-second {X} {Y} (a ∷ xs) (b ∷ ys) x y (zero, inside, is) = (0, omega arith, ap (λ (p : X × Y). p.1) is)
paired-second (a ∷ xs) (b ∷ ys) x y (suc i, inside, is) =
    let (at, within, found) = paired-second xs ys x y (i, omega arith, is) in
    (suc at, omega arith, found)
