-- A mirror of the code: types that pairs lead to from one another.
use Rattle.std.specs.Prelude.{ℕ, ◌≤◌, ◌<◌, Bool, MatchBool, ◌≡◌, ◌≢◌, ◌⊎◌, List, [], ◌∷◌, ◌++◌, Contains, length, slice_index}
use Rattle.nomos_ir.specs.declared.ids.TypeId.{TypeId}

-- the least relation that has the pairs and goes from each type to itself, back and through
pub data Linked (pairs : List (TypeId × TypeId)) : ℕ → ℕ → Type 0 where
  same : (t : ℕ) → Linked pairs t t
  along : (p : TypeId × TypeId) → Contains pairs p → Linked pairs p.0.0 p.1.0
  back : (s t : ℕ) → Linked pairs s t → Linked pairs t s
  through : (s t u : ℕ) → Linked pairs s t → Linked pairs t u → Linked pairs s u

-- each number stands over one that is linked to it and not greater
abbrev pub IsForest : List ℕ → List (TypeId × TypeId) → Type 0
IsForest above pairs =
    (i : ℕ) → i < length above → (slice_index above i ≤ i) × Linked pairs i (slice_index above i)

-- all that stood stand still, each over the same one, and those that join them are each over itself
abbrev pub JoinInPlace : List ℕ → List ℕ → Type 0
JoinInPlace old new =
    (i : ℕ) → i < length new → ((i < length old) × (slice_index new i ≡ slice_index old i)) ⊎ (slice_index new i ≡ i)

-- two types that are not the same are linked
abbrev pub AreTwoLinked : List (TypeId × TypeId) → TypeId → TypeId → Type 0
AreTwoLinked pairs a b = Linked pairs a.0 b.0 × (a.0 ≢ b.0)

-- the pair is put at the end where its types were not known to be linked, and nothing changes where they were
abbrev pub Joins : List (TypeId × TypeId) → TypeId × TypeId → List (TypeId × TypeId) → Bool → Type 0
Joins old p new joined = MatchBool joined (new ≡ old ++ p ∷ []) (Linked old p.0.0 p.1.0 × (new ≡ old))
