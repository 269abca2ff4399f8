-- What becomes of what is held, where something else stands at a place.
use Rattle.std.specs.Prelude.{◌≡◌, ◌≢◌, ℕ, List, IsSome, Option, Some, slice_get, slice_set}
use Rattle.nomos_slots.specs.Cells.{Cell, name_in}
use Rattle.nomos_slots.specs.Numbers.{put_at}
use Rattle.nomos_state.specs.Indexed.{Holding}
use Rattle.nomos_state.specs.Objects.{FitsRows, ListRow, ValueRow}
use Rattle.nomos_state.specs.Spanning.{Spans}
use Rattle.nomos_state.specs.declared.kept.Kept.{Kept}
use Rattle.nomos_state.specs.declared.kept.Kept.TheVariants as kept
use Rattle.nomos_state.specs.declared.kept.KeptProcess.{KeptProcess}

-- something else is kept at a place, or nothing, with these rows, and channels stand in these cells
abbrev pub with_place : ℕ → Option Kept → ValueRow → ListRow → List Cell → Holding → Holding
with_place place item values its_lists cells h = record h {
  slots = put_at h.slots place item;
  value_rows = slice_set h.value_rows place values;
  list_rows = slice_set h.list_rows place its_lists;
  cells = cells;
}

-- An object is kept there; what comes in its place fits its rows, and only a process has channels, which stand in its
-- span. Those of other processes stay.
pub record CanPlace (h : Holding) (place number : ℕ) (before : Kept) (item : Option Kept) (values : ValueRow)
    (its_lists : ListRow) (cells : List Cell) : Type 0 where
  pub stood : slice_get h.slots place ≡ Some (record { number = number; item = Some before })
  pub fits : FitsRows item values its_lists
  pub others : (p v : ℕ) → p ≢ number → name_in cells p v ≡ name_in h.cells p v
  pub its_own : (v : ℕ) → IsSome (name_in cells number v) → Spans item v

-- Of what is held only the object of a number, which stands at this place, becomes another one or leaves: what is kept,
-- its rows and its channels.
pub record PlaceComes (before after : Holding) (number place : ℕ) (item : Option Kept) (values : ValueRow)
    (its_lists : ListRow) : Type 0 where
  pub slots : after.slots ≡ put_at before.slots place item
  pub value_rows : after.value_rows ≡ slice_set before.value_rows place values
  pub list_rows : after.list_rows ≡ slice_set before.list_rows place its_lists
  pub others : (p v : ℕ) → p ≢ number → name_in after.cells p v ≡ name_in before.cells p v
  pub names : after.names ≡ before.names
  pub balances : after.balances ≡ before.balances
  pub outside : after.outside ≡ before.outside
  pub results : after.results ≡ before.results
  pub drawn : after.drawn ≡ before.drawn

-- the same of a process
abbrev pub ProcessComes : Holding → Holding → ℕ → ℕ → KeptProcess → ValueRow → ListRow → Type 0
ProcessComes before after pid place k values its_lists =
    PlaceComes before after pid place (Some (kept.Process k)) values its_lists
