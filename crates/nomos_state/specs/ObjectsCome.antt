-- Objects that come to an indexed state.
use Rattle.std.specs.Prelude.{◌≡◌, ◌≢◌, ◌+◌, ◌++◌, ◌==◌, ℕ, cond, List, [], ◌∷◌, IsSome, Option, Some, None}
use Rattle.nomos_ir.specs.Bindings.{bound_to}
use Rattle.nomos_ir.specs.declared.ids.VarId.{VarId}
use Rattle.nomos_slots.specs.Cells.{name_in}
use Rattle.nomos_state.specs.Indexed.{Holding}
use Rattle.nomos_state.specs.Objects.{FitsRows, ListRow, ValueRow}
use Rattle.nomos_state.specs.Spanning.{Spans}
use Rattle.nomos_state.specs.declared.kept.Kept.{Kept}

-- the name, or the other one where there is none
abbrev pub name_or : Option ℕ → Option ℕ → Option ℕ
name_or (Some name) other = Some name
name_or None other = other

-- the name of a variable of a process, where these pairs are bound for the process first
abbrev pub name_with : ℕ → List (VarId × ℕ) → ℕ → ℕ → Option ℕ → Option ℕ
name_with process pairs p v name = cond (process == p) (name_or (bound_to v pairs) name) name

-- An object comes, under the next number, with its rows and its channels. Its rows are as it is kept of them, and only
-- a process has channels, which stand in its span.
pub record ObjectComes (before after : Holding) (number : ℕ) (k : Kept) (values : ValueRow) (its_lists : ListRow)
    : Type 0 where
  pub is_next : number ≡ before.drawn.next_object
  pub fits : FitsRows (Some k) values its_lists
  pub its_own : (v : ℕ) → IsSome (name_in after.cells number v) → Spans (Some k) v
  pub others : (p v : ℕ) → p ≢ number → name_in after.cells p v ≡ name_in before.cells p v
  pub slots : after.slots ≡ before.slots ++ (record { number = number; item = Some k }) ∷ []
  pub value_rows : after.value_rows ≡ before.value_rows ++ values ∷ []
  pub list_rows : after.list_rows ≡ before.list_rows ++ its_lists ∷ []
  pub names : after.names ≡ before.names
  pub balances : after.balances ≡ before.balances
  pub outside : after.outside ≡ before.outside
  pub results : after.results ≡ before.results
  pub drawn : after.drawn ≡ record before.drawn { next_object = before.drawn.next_object + 1 }
