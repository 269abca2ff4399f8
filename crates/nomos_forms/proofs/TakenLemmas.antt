-- What the iterator of a vector has given.
use Rattle.std.proofs.Common.{◌≡◌, List, [], ◌∷◌, ◌++◌, ◌∙◌, length, ap, sym, refl, arith}
use Rattle.std.specs.Iterator.{Yields}
use Rattle.std.specs.Vec.Iter.{into_iter_items, into_iter_len, into_iter_steps}
use Rattle.std.specs.declared.vec.IntoIter.{IntoIter}
use Rattle.std.proofs.lemmas.List.{append-nil}

-- it is a front of the items
pub taken-front : {X A : Type 0} (s : IntoIter X A) (xs : List X) (t : IntoIter X A) → Yields into_iter_steps s xs t
    → into_iter_items s ≡ xs ++ into_iter_items t
taken-front s [] t y = ap into_iter_items y
taken-front s (x ∷ xs) t y = y.1.0 ∙ ap (λ ys. x ∷ ys) (taken-front y.0 xs t y.2)

pub none-left : {X : Type 0} (xs : List X) → length xs ≡ 0 → xs ≡ []
none-left [] none = refl
none-left (x ∷ xs) none = absurd (omega (arith, none))

-- and all of them where none is left
pub all-taken : {X A : Type 0} (s : IntoIter X A) (xs : List X) (t : IntoIter X A) → Yields into_iter_steps s xs t
    → into_iter_len t ≡ 0 → xs ≡ into_iter_items s
all-taken s xs t y none =
    let left : length (into_iter_items t) ≡ 0 = omega (arith, none, t.rest.ok) in
    sym (taken-front s xs t y ∙ ap (λ ys. xs ++ ys) (none-left (into_iter_items t) left) ∙ append-nil xs)
