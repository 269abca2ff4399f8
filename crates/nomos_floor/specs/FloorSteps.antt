-- The atomic steps of a floor, in the order in which a turn makes them, then those by which passes come and go. A step
-- on a word sees the seat before it, the number that it finds, and the seat after it; a seat is a view, and the slot if
-- it is out with it. `take` and `put` change no word: they move the work out of the slot and into it, while the slot is
-- out with the seat; the work is put back before its entry is counted.
use Rattle.std.specs.Prelude.{◌≡◌, ◌≢◌, ℕ, ◌+◌, ◌%◌, ◌^◌, Option, Some, List, [], ◌∷◌, ◌++◌}
use mathlib.Core.List.{IsPrefix}
use Rattle.atomic_table.specs.Table.{Me, Step}
use Rattle.nomos_floor.specs.OwnEntries.{mine, longer, without_number}
use Rattle.nomos_floor.specs.declared.view.PassView.{PassView}
use Rattle.nomos_floor.specs.declared.view.Stage.{Stage}
use Rattle.nomos_floor.specs.declared.view.Stage.TheVariants.{Idle, Waiting, Serving}

abbrev pub Holder : Type 0 → Type 0 → Type 0
Holder W E = Me (Option W) (PassView W E)

abbrev pub AtomicStep : Type 0 → Type 0 → Type 1
AtomicStep W E = Step (Option W) → Holder W E → ℕ → Holder W E → Type 0

module _ {W E : Type 0} where
  abbrev pub at_stage : Stage → PassView W E → PassView W E
  at_stage stage v = record v { stage = stage }

  -- `draw`, 1 is added to `ticket`: the number found is its ticket
  abbrev pub draw : AtomicStep W E
  draw step m found n = (ticket : ℕ) × (ticket % 2 ^ 64 ≡ found) × (n ≡ (at_stage (Waiting ticket) m.0, m.1))

  -- it has its turn, and has seen this history
  abbrev pub at_turn : ℕ → List (ℕ × E) → PassView W E → PassView W E
  at_turn ticket history v = record v { stage = Serving ticket; seen = history }

  module _ {S : Type 0} (start : W → S) (history : W → List (ℕ × E)) where
    -- The work has the start of the opened one, and a history that begins with what the pass had seen and has of it
    -- just its own entries
    abbrev pub Continues : PassView W E → W → Type 0
    Continues v work =
        ((opened : W) → v.opened ≡ Some opened → start work ≡ start opened)
        × IsPrefix v.seen (history work)
        × (v.own ≡ mine v.number (history work))

    -- `look`, a load of `serving`: where the number found is its ticket it has its turn, and the slot with the work is
    -- out with it
    abbrev pub look : AtomicStep W E
    look step m found n = (ticket : ℕ) → m.0.stage ≡ Waiting ticket
        → (found ≡ ticket % 2 ^ 64
        → (work : W) × (n ≡ (at_turn ticket (history work) m.0, (0, Some work) ∷ m.1)) × Continues m.0 work)
        × (found ≢ ticket % 2 ^ 64 → n ≡ m)

  -- it has added an entry
  abbrev pub adding : E → PassView W E → PassView W E
  adding entry v = record v { seen = v.seen ++ (v.number, entry) ∷ []; own = v.own ++ entry ∷ [] }

  -- `count`, 1 is added to `count`: the firing. The work that the seat holds has the entry as its last
  abbrev pub count : (W → List (ℕ × E)) → AtomicStep W E
  count history step m found n =
      (entry : E)
      × (n ≡ (adding entry m.0, m.1))
      × ((work : W) → m.1 ≡ (0, Some work) ∷ [] → history work ≡ n.0.seen)

  -- `serve`, 1 is added to `serving`: the slot goes home with the work in it
  abbrev pub serve : AtomicStep W E
  serve step m found n = n ≡ (at_stage Idle m.0, [])

  -- `split`, of the opening seat in two: what the opening pass knows then
  abbrev pub split_off : PassView W E → PassView W E
  split_off v = record v { next = v.next + 1; out = v.out ++ v.next ∷ [] }

  -- and what the new one knows
  abbrev pub newcomer : PassView W E → PassView W E
  newcomer v = record {
    stage = Idle;
    opened = v.opened;
    number = v.next;
    seen = v.seen;
    own = [];
    told = [];
    next = 0;
    out = [];
    ended = [];
  }

  -- `join`, of another seat into the opening one: what the opening pass knows then. The other pass has ended
  abbrev pub joined : PassView W E → PassView W E → PassView W E
  joined v w = record v {
    told = w.seen;
    out = without_number w.number v.out;
    ended = v.ended ++ (w.number, w.own) ∷ [];
  }

  -- it has seen the longer of the two histories
  abbrev pub learned : PassView W E → PassView W E
  learned v = record v { seen = longer v.seen v.told; told = [] }

  -- `learn`, a load of `ticket` behind `join`: of the two histories that it knows the longer begins with both
  abbrev pub learn : AtomicStep W E
  learn step m found n = (n ≡ (learned m.0, m.1)) × IsPrefix m.0.seen n.0.seen × IsPrefix m.0.told n.0.seen
