-- What holds of each item of two lists holds of each item of either one.
use Rattle.std.proofs.Common.{List, [], ◌∷◌, ◌++◌, All}
use Rattle.std.proofs.lemmas.List.Elements.{All-nil, All-cons, All-head, All-tail}

module _ {X : Type 0} (P : X → Type 0) where
  pub all-first : (xs ys : List X) → All P (xs ++ ys) → All P xs
  all-first [] ys h = All-nil P
  all-first (x ∷ xs) ys h =
      All-cons P x xs (All-head P x (xs ++ ys) h) (all-first xs ys (All-tail P x (xs ++ ys) h))

  pub all-last : (xs ys : List X) → All P (xs ++ ys) → All P ys
  all-last [] ys h = h
  all-last (x ∷ xs) ys h = all-last xs ys (All-tail P x (xs ++ ys) h)
