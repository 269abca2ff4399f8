-- What an indexed state is seen as.
use Rattle.std.specs.Prelude.{◌≡◌, ◌≤◌, ◌<◌, ℕ, List, [], length, slice_index_or, All, IfSome, is_some, Option, Some}
use Rattle.nomos_ir.specs.Value.{Value}
use Rattle.nomos_ir.specs.declared.ids.TypeId.{TypeId}
use Rattle.nomos_machine.specs.Optional.{◌>>=◌}
use Rattle.nomos_machine.specs.State.{State}
use Rattle.nomos_machine.specs.declared.object.Object.{Object}
use Rattle.std.specs.Option.{option_map}
use Rattle.nomos_slots.specs.Cells.{Cell}
use Rattle.nomos_slots.specs.Marking.{Marking}
use Rattle.nomos_slots.specs.Numbers.{IsAscending, numbers}
use Rattle.nomos_slots.specs.declared.numbered.Slot.{Slot}
use Rattle.nomos_state.specs.Objects.{FitRows, AreHeld, ListRow, ValueRow, kept_at, object_of, objects_of, types_of}
use Rattle.nomos_state.specs.declared.inside.Columns.{Columns}
use Rattle.nomos_state.specs.declared.inside.Inside.TheInside.{Inside}
use Rattle.nomos_state.specs.declared.inside.Numbers.{Numbers}
use Rattle.nomos_state.specs.declared.kept.Kept.{Kept}

-- what is kept, now or where it is marked
pub record Holding : Type 0 where
  pub slots : List (Slot Kept)
  pub value_rows : List ValueRow
  pub list_rows : List ListRow
  pub cells : List Cell
  pub names : List (Slot TypeId)
  pub balances : List ℕ
  pub outside : List ℕ
  pub results : List (ℕ × Value)
  pub drawn : Numbers

-- nothing is kept, and these numbers are drawn next
abbrev pub nothing_held : Numbers → Holding
nothing_held drawn = record {
  slots = [];
  value_rows = [];
  list_rows = [];
  cells = [];
  names = [];
  balances = [];
  outside = [];
  results = [];
  drawn = drawn;
}

-- the state for which it stands
abbrev pub state_of : Holding → State
state_of h = record {
  objects = objects_of h.cells h.slots h.value_rows h.list_rows;
  next_object = h.drawn.next_object;
  next_name = h.drawn.next_name;
  types = types_of h.names;
  balances = h.balances;
  spent = h.drawn.spent;
  results = h.results;
  outside = h.outside;
}

-- the object that stands at a place
abbrev pub standing_at : Holding → ℕ → Option Object
standing_at h place = kept_at h.slots place >>= λ k.
    Some (object_of h.cells k.0 (slice_index_or h.value_rows place []) (slice_index_or h.list_rows place []) k.1)

-- The rows are those of the slots, in the order of whose numbers all below the next one they stand; so are the names.
pub record IsHolding (h : Holding) : Type 0 where
  pub value_rows : length h.value_rows ≡ length h.slots
  pub list_rows : length h.list_rows ≡ length h.slots
  pub ascending : IsAscending h.slots
  pub below : All (λ n. n < h.drawn.next_object) (numbers h.slots)
  pub names_ascending : IsAscending h.names
  pub names_below : All (λ n. n < h.drawn.next_name) (numbers h.names)
  pub fit : FitRows h.slots h.value_rows h.list_rows
  pub held : AreHeld h.slots h.cells

-- what is kept now
abbrev pub held_now : Columns → Holding
held_now c = record {
  slots = c.objects.now;
  value_rows = c.values.now;
  list_rows = c.lists.now;
  cells = c.channels.now;
  names = c.names.now;
  balances = c.balances.now;
  outside = c.outside.now;
  results = c.results.now;
  drawn = c.numbers;
}

-- what is marked, where all is marked, with the numbers that were drawn there
abbrev pub held_marked : Columns → Option Numbers → Option Holding
held_marked c marked = do
  drawn ← marked
  slots ← c.objects.marked
  value_rows ← c.values.marked
  list_rows ← c.lists.marked
  cells ← c.channels.marked
  names ← c.names.marked
  balances ← c.balances.marked
  outside ← c.outside.marked
  results ← c.results.marked
  Some (record {
    slots = slots;
    value_rows = value_rows;
    list_rows = list_rows;
    cells = cells;
    names = names;
    balances = balances;
    outside = outside;
    results = results;
    drawn = drawn;
  })

-- all is marked, or nothing is
pub record AreMarkedTogether (c : Columns) (marked : Option Numbers) : Type 0 where
  pub objects : is_some c.objects.marked ≡ is_some marked
  pub values : is_some c.values.marked ≡ is_some marked
  pub its_lists : is_some c.lists.marked ≡ is_some marked
  pub channels : is_some c.channels.marked ≡ is_some marked
  pub names : is_some c.names.marked ≡ is_some marked
  pub balances : is_some c.balances.marked ≡ is_some marked
  pub outside : is_some c.outside.marked ≡ is_some marked
  pub results : is_some c.results.marked ≡ is_some marked

-- there is room for so many small changes
pub record HasRoom (c : Columns) (room : ℕ) : Type 0 where
  pub objects : room ≤ c.objects.room
  pub values : room ≤ c.values.room
  pub its_lists : room ≤ c.lists.room
  pub channels : room ≤ c.channels.room
  pub names : room ≤ c.names.room

-- the log of a column has a seat for each record, also for each that is marked
pub record HasSeatForEach (column : Marking ℕ) : Type 0 where
  pub now : length column.now ≤ column.seats
  pub marked : IfSome column.marked (λ records. length records ≤ column.seats)

-- balances, and names outside, can be changed without any room
pub record HasSeats (c : Columns) : Type 0 where
  pub balances : HasSeatForEach c.balances
  pub outside : HasSeatForEach c.outside

-- the state, the one that is marked, and for how many small changes there is room
pub record Indexed : Type 0 where
  pub state : State
  pub marked : Option State
  pub room : ℕ

abbrev pub indexed_of : Inside → Indexed
indexed_of s = record {
  state = state_of (held_now s.contents);
  marked = option_map state_of (held_marked s.contents s.marked);
  room = s.room;
}

-- what holds of all that is kept
pub record IsIndexed (s : Inside) : Type 0 where
  pub now : IsHolding (held_now s.contents)
  pub together : AreMarkedTogether s.contents s.marked
  pub marked : IfSome (held_marked s.contents s.marked) IsHolding
  pub has_room : HasRoom s.contents s.room
  pub has_seats : HasSeats s.contents
