-- What a shelf keeps of what it was when it was marked.
use Rattle.std.specs.Prelude.{◌≡◌, ◌≤◌, ◌<◌, ◌==◌, ◌⊎◌, ℕ, Bool, true, false, List, [], ◌∷◌, map, min, take, length, slice_set, slice_index_or, Option, All, IfSome}
use Rattle.std.specs.List.{list_any, remove}
use Rattle.std.specs.Option.{option_map}
use Rattle.std.specs.Global.{Vec}
use Rattle.nomos_slots.specs.Log.{mark_len, spare_of}
use Rattle.nomos_slots.specs.Shelving.{Shelving}
use Rattle.nomos_slots.specs.declared.shelf.ShelfRow.{ShelfRow}
use Rattle.nomos_slots.specs.declared.shelf.ShelfStep.{ShelfStep}
use Rattle.nomos_slots.specs.declared.shelf.ShelfStep.TheVariants as step

module _ {X : Type 0} where
  -- the items of each row
  abbrev pub rows_of : List (ShelfRow X) → List (List X)
  rows_of rows = map (λ row. row.items.items) rows

  -- for how many items more there is room in each
  abbrev pub spares_of : List (ShelfRow X) → List ℕ
  spares_of rows = map (λ row. spare_of row.items) rows

  -- whether each says that the log has all that stood there
  abbrev pub flags_of : List (ShelfRow X) → List Bool
  flags_of rows = map (λ row. row.freed) rows

  abbrev pub is_freed : List (ShelfRow X) → ℕ → Bool
  is_freed rows place = slice_index_or (flags_of rows) place false

  -- a step is of this place
  abbrev pub place_of : ShelfStep X → ℕ
  place_of (step.Added place at) = place
  place_of (step.Replaced place row) = place

  -- it has all that stood at this place
  abbrev pub has_all : ℕ → ShelfStep X → Bool
  has_all place (step.Added at i) = false
  has_all place (step.Replaced at row) = at == place

  -- so does one of the log
  abbrev pub covers : List (ShelfStep X) → ℕ → Bool
  covers log place = list_any (has_all place) log

  -- the rows before a step
  abbrev pub undone : ShelfStep X → List (List X) → List (List X)
  undone (step.Added place at) rows = slice_set rows place (remove (slice_index_or rows place []) at)
  undone (step.Replaced place row) rows = slice_set rows place row.items

  -- the rows before all steps of the log, of which the last is undone first
  abbrev pub undo : List (ShelfStep X) → List (List X) → List (List X)
  undo [] rows = rows
  undo (step ∷ log) rows = undone step (undo log rows)

  -- as it is seen: what was marked is the first rows, as many as there were, with the log undone
  abbrev pub shelving_of : Vec (ShelfRow X) → Vec (ShelfStep X) → Option ℕ → Shelving X
  shelving_of rows log marked = record {
    now = rows_of rows.items;
    marked = option_map (λ len. undo log.items (take len (rows_of rows.items))) marked;
    freed = flags_of rows.items;
    spares = spares_of rows.items;
    room = min (spare_of rows) (spare_of log);
  }

  -- the rows that say so are covered
  abbrev pub IsCovered : List (ShelfRow X) → List (ShelfStep X) → Type 0
  IsCovered rows log = (place : ℕ) → is_freed rows place ≡ true → covers log place ≡ true

  -- The rows that are marked are there; the log is of these; and it has all of those that say so.
  pub record IsShelf (rows : List (ShelfRow X)) (log : List (ShelfStep X)) (marked : Option ℕ) : Type 0 where
    pub within : mark_len marked ≤ length rows
    pub below : All (λ step. place_of step < mark_len marked) log
    pub covered : IsCovered rows log

  -- ---- in words of what is seen

  -- the row came since the mark
  abbrev pub IsLate : Shelving X → ℕ → Type 0
  IsLate s place = IfSome s.marked (λ rows. length rows ≤ place)

  -- nothing of the row has to be put back
  abbrev pub IsFree : Shelving X → ℕ → Type 0
  IsFree s place = IsLate s place ⊎ (slice_index_or s.freed place false ≡ true)
