-- Senders that stand at their numbers.
use Rattle.std.proofs.Common.{◌≡◌, ◌⊎◌, ℕ, zero, suc, List, [], ◌∷◌, ◌++◌, length, Some, slice_get, refl, ap, inl, inr, ⊎_elim}

-- what stands behind a list stands at its length
pub seam : {X : Type 0} (xs : List X) (y : X) (ys : List X) → slice_get (xs ++ y ∷ ys) (length xs) ≡ Some y
seam [] y ys = refl
seam (x ∷ xs) y ys = seam xs y ys

-- what stands in a list with one more stands in the list, or is the last
pub get_push : {X : Type 0} (xs : List X) (y s : X) (k : ℕ) → slice_get (xs ++ y ∷ []) k ≡ Some s
    → (slice_get xs k ≡ Some s) ⊎ ((k ≡ length xs) × (y ≡ s))
get_push [] y s zero e = inr (refl, cc e)
get_push [] y s (suc k) e = absurd (cc e)
get_push (x ∷ xs) y s zero e = inl e
get_push (x ∷ xs) y s (suc k) e = ⊎_elim (λ at. inl at) (λ last. inr (ap suc last.0, last.1)) (get_push xs y s k e)
