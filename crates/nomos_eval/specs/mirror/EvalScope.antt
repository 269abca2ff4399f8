-- A mirror of the code: the lists of variables of a store.
use Rattle.std.specs.Prelude.{◌≡◌, ℕ, ◌<◌, ◌≤◌, ◌⊎◌, ◌==◌, false, List, [], ◌∷◌, Some, slice_get, slice_index_or}
use Rattle.nomos_ir.specs.Bindings.{bound_to}
use Rattle.nomos_ir.specs.declared.ids.VarId.{VarId}
use Rattle.nomos_eval.specs.declared.datum.Datum.{Datum}
use Rattle.nomos_eval.specs.declared.scopes.Binding.{Binding}
use Rattle.nomos_eval.specs.declared.scopes.Binding.TheVariants as binding
use Rattle.nomos_eval.specs.declared.scopes.Leap.{Leap}
use Rattle.nomos_eval.specs.mirror.EvalTable.{table}

-- the variables that a binding stands for
abbrev pub binding_list : List (List (VarId × Datum)) → Binding → List (VarId × Datum)
binding_list scopes binding.Nothing = []
binding_list scopes (binding.More v value others leap) = (v, value) ∷ slice_index_or scopes others []
binding_list scopes (binding.Call frame) = frame

-- the lists of bindings
unfoldable pub scopes_of : List Binding → List (List (VarId × Datum))
scopes_of cells = table binding_list [] cells

-- the others stand before this place
abbrev pub IsBehind : ℕ → Binding → Type 0
IsBehind place binding.Nothing = Unit {0}
IsBehind place (binding.More v value others leap) = others < place
IsBehind place (binding.Call frame) = Unit {0}

-- a variable has another number than all those that a leap passes
abbrev pub IsOutside : Leap → ℕ → Type 0
IsOutside leap v = (v < leap.least) ⊎ (leap.most < v)

-- a leap over a variable before others leads to a place at which a variable outside of it is bound as it is before
pub record Leads (scopes : List (List (VarId × Datum))) (w : VarId) (others : ℕ) (leap : Leap) : Type 0 where
  pub there : leap.place ≤ others
  pub apart : (v : ℕ) → IsOutside leap v → (w.0 == v) ≡ false
  pub same : (v : ℕ) → IsOutside leap v
      → bound_to v (slice_index_or scopes others []) ≡ bound_to v (slice_index_or scopes leap.place [])

-- the leap of a binding, if it has one
abbrev pub LeadsOn : List (List (VarId × Datum)) → Binding → Type 0
LeadsOn scopes binding.Nothing = Unit {0}
LeadsOn scopes (binding.More v value others leap) = Leads scopes v others leap
LeadsOn scopes (binding.Call frame) = Unit {0}

-- what holds of all bindings
pub record AreScopes (cells : List Binding) : Type 0 where
  pub before : (k : ℕ) (c : Binding) → slice_get cells k ≡ Some c → IsBehind k c
  pub leaps : (k : ℕ) (c : Binding) → slice_get cells k ≡ Some c → LeadsOn (scopes_of cells) c
