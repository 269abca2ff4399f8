-- What an indexed state is seen as, with room counted in firings.
use Rattle.std.specs.Prelude.{◌≤◌, ◌*◌, ℕ, Option}
use Rattle.nomos_machine.specs.State.{State}
use Rattle.nomos_changes.specs.declared.performing.TheConstants.{ROOM_OF_AN_ACT}
use Rattle.nomos_state.specs.declared.indexed.IndexedState.TheInside.{Inside}

-- the state, the one that is marked, and for how many firings ahead there is room
pub record IndexedMachine : Type 0 where
  pub state : State
  pub marked : Option State
  pub spare : ℕ

abbrev pub machine_of : Inside → IndexedMachine
machine_of s = record { state = s.tallied.state; marked = s.tallied.marked; spare = s.spare }

-- each firing ahead has the room of an act
abbrev pub HasSpare : Inside → Type 0
HasSpare s = s.spare * ROOM_OF_AN_ACT ≤ s.tallied.room
