-- Lemmas of classes that are joined.
use Rattle.std.proofs.Common.{◌≡◌, ℕ, inl, inr, List, [], ◌∷◌, ◌++◌, refl, sym, subst, arith}
use Rattle.std.proofs.lemmas.List.Elements.{Contains-append_left, Contains-push}
use Rattle.nomos_ir.specs.declared.ids.TypeId.{TypeId}
use Rattle.nomos_equality.specs.mirror.Linking.{Linked, IsForest, JoinInPlace, same, along, back, through}

-- what is linked stays linked by more pairs
pub linked-more : (pairs more : List (TypeId × TypeId)) (s t : ℕ) → Linked pairs s t → Linked (pairs ++ more) s t
linked-more pairs more s t (same _) = same s
linked-more pairs more s t (along p among) = along p (Contains-append_left pairs more p among)
linked-more pairs more s t (back u v linked) = back u v (linked-more pairs more u v linked)
linked-more pairs more s t (through u v w first second) =
    through u v w (linked-more pairs more u v first) (linked-more pairs more v w second)

-- a pair links what its types are linked to
pub linked-joined : (pairs : List (TypeId × TypeId)) (left right : TypeId) (low high : ℕ) → Linked pairs left.0 low
    → Linked pairs right.0 high → Linked (pairs ++ (left, right) ∷ []) low high
linked-joined pairs left right low high first second =
    let more : List (TypeId × TypeId) = (left, right) ∷ [] in
    through low left.0 high (back left.0 low (linked-more pairs more left.0 low first))
    (through left.0 right.0 high (along (left, right) (Contains-push pairs (left, right)))
    (linked-more pairs more right.0 high second))

-- types that are linked to one are linked
pub linked-least : (pairs : List (TypeId × TypeId)) (s t low high : ℕ) → low ≡ high → Linked pairs s low
    → Linked pairs t high → Linked pairs s t
linked-least pairs s t low high one first second =
    through s low t first (back t low (subst (λ (n : ℕ). Linked pairs t n) (sym one) second))

-- ---- more types

-- nothing joins
pub in_place-same : (xs : List ℕ) → JoinInPlace xs xs
in_place-same xs i inside = inl (inside, refl)

-- and each stays over one that is linked to it
pub forest-more : (old new : List ℕ) (pairs : List (TypeId × TypeId)) → IsForest old pairs → JoinInPlace old new
    → IsForest new pairs
forest-more old new pairs forest more =
    λ i inside. elim (more i inside) [
      | inl h ↦
          let at = forest i h.0 in (
            omega (arith, at.0, h.1),
            subst (λ (n : ℕ). Linked pairs i n) (sym h.1) at.1,
          )
      | inr h ↦ (omega (arith, h), subst (λ (n : ℕ). Linked pairs i n) (sym h) (same i))
    ]
