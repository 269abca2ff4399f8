-- What a list is seen as to which things are added.
use Rattle.std.specs.Prelude.{◌≤◌, ℕ, List, Option, take, length}
use Rattle.std.specs.Option.{option_map}
use Rattle.std.specs.Global.{Vec}
use Rattle.nomos_slots.specs.Log.{mark_len, spare_of}
use Rattle.nomos_slots.specs.Marking.{Marking}

module _ {X : Type 0} where
  -- what was marked is the first things, as many as there were; there is no log
  abbrev pub marking_of : Vec X → Option ℕ → Marking X
  marking_of items marked = record {
    now = items.items;
    marked = option_map (λ len. take len items.items) marked;
    room = spare_of items;
    seats = 0;
  }

  -- what is marked is there
  abbrev pub HasMarked : List X → Option ℕ → Type 0
  HasMarked items marked = mark_len marked ≤ length items
