-- Where a variable stands in a row.
use Rattle.std.specs.Prelude.{◌≡◌, ℕ, List, Some, slice_get}
use Rattle.nomos_ir.specs.declared.ids.VarId.{VarId}

-- the pair at this place is of the variable
abbrev pub IsBoundAt : {X : Type 0} → VarId → List (VarId × X) → ℕ → Type 0
IsBoundAt {X} v row at = (e : VarId × X) × (slice_get row at ≡ Some e) × (e.0.0 ≡ v.0)
