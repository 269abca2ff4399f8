-- A mirror of the code: where a variable stands among pairs in ascending order.
use Rattle.std.specs.Prelude.{◌≡◌, ◌<◌, ◌≤◌, ℕ, List, length, All, take, drop, slice_index_or}
use Rattle.std.specs.declared.result.Result.{Result}
use Rattle.std.specs.declared.result.Result.TheVariants.{Ok, Err}
use Rattle.nomos_ir.specs.declared.ids.VarId.{VarId}

-- the pair at the place has the variable, and those before it have lower ones
pub record StandsAt {X : Type 0} (v : VarId) (pairs : List (VarId × X)) (place : ℕ) : Type 0 where
  pub within : place < length pairs
  pub front : All (λ e. e.0.0 < v.0) (take place pairs)
  pub here : (e : VarId × X) → (slice_index_or pairs place e).0.0 ≡ v.0

-- the pairs before the place have lower variables, and the others have higher ones
pub record PartsAt {X : Type 0} (v : VarId) (pairs : List (VarId × X)) (place : ℕ) : Type 0 where
  pub within : place ≤ length pairs
  pub front : All (λ e. e.0.0 < v.0) (take place pairs)
  pub back : All (λ e. v.0 < e.0.0) (drop place pairs)

-- the place of the variable, or that where it would have to stand
abbrev pub IsPlaceOf : {X : Type 0} → VarId → List (VarId × X) → Result ℕ ℕ → Type 0
IsPlaceOf v pairs (Ok place) = StandsAt v pairs place
IsPlaceOf v pairs (Err place) = PartsAt v pairs place
