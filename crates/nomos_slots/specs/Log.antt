-- What a column keeps of what it was when it was marked.
use Rattle.std.specs.Prelude.{◌≡◌, ◌≤◌, ◌<◌, ◌==◌, ◌-◌, ◌⊎◌, ℕ, Bool, false, List, [], ◌∷◌, map, min, take, length, slice_set, slice_index_or, Option, Some, None, All}
use Rattle.std.specs.List.{list_any}
use Rattle.std.specs.Option.{option_map}
use Rattle.std.specs.Global.{Vec}
use Rattle.std.specs.Vec.{vec_len, vec_capacity}
use Rattle.nomos_slots.specs.Marking.{Marking}
use Rattle.nomos_slots.specs.declared.column.Logged.{Logged}

-- for how many more a vector has room
abbrev pub spare_of : {Y : Type 0} → Vec Y → ℕ
spare_of v = vec_capacity v - vec_len v

-- how many records are marked
abbrev pub mark_len : Option ℕ → ℕ
mark_len None = 0
mark_len (Some len) = len

module _ {X : Type 0} where
  -- the records of entries
  abbrev pub records : List (Logged X) → List X
  records entries = map (λ e. e.item) entries

  -- the entry with the same record, of which the log has nothing
  abbrev pub unkept : Logged X → Logged X
  unkept entry = record { item = entry.item; kept = false }

  -- whether the entry at this place says that the log has what stood there
  abbrev pub is_kept : List (Logged X) → ℕ → Bool
  is_kept entries place = slice_index_or (map (λ e. e.kept) entries) place false

  -- whether the log has a record of this place
  abbrev pub is_logged : List (ℕ × X) → ℕ → Bool
  is_logged log place = list_any (λ saved. saved.0 == place) log

  -- the log is of places below this one
  abbrev pub IsBelow : ℕ → List (ℕ × X) → Type 0
  IsBelow len log = All (λ saved. saved.0 < len) log

  -- exactly the places of the log are kept in it
  abbrev pub IsKeptAsLogged : List (Logged X) → List (ℕ × X) → Type 0
  IsKeptAsLogged entries log = (place : ℕ) → is_kept entries place ≡ is_logged log place

  -- the log has each place once
  abbrev pub IsOnce : List (ℕ × X) → Type 0
  IsOnce [] = Unit {0}
  IsOnce (saved ∷ log) = (is_logged log saved.0 ≡ false) × IsOnce log

  -- a list with each record of the log at the place from which it is
  abbrev pub put_back : List X → List (ℕ × X) → List X
  put_back items [] = items
  put_back items (saved ∷ log) = put_back (slice_set items saved.0 saved.1) log

  -- as it is seen: what was marked is the first records, as many as there were, with the log put back
  abbrev pub marking_of : Vec (Logged X) → Vec (ℕ × X) → Option ℕ → Marking X
  marking_of entries log marked = record {
    now = records entries.items;
    marked = option_map (λ len. put_back (take len (records entries.items)) log.items) marked;
    room = min (spare_of entries) (spare_of log);
    seats = vec_capacity log;
  }

  -- there is room for a change, or the log has a seat for each record
  abbrev pub HasSeat : Marking X → Type 0
  HasSeat m = (0 < m.room) ⊎ (length m.now ≤ m.seats)

  -- The records that are marked are there, and exactly those that were changed since are in the log, each once.
  pub record IsSound (entries : List (Logged X)) (log : List (ℕ × X)) (marked : Option ℕ) : Type 0 where
    pub within : mark_len marked ≤ length entries
    pub below : IsBelow (mark_len marked) log
    pub once : IsOnce log
    pub kept : IsKeptAsLogged entries log
