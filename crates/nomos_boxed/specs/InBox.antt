-- What a boxed machine is seen as.
use Rattle.std.specs.Prelude.{Bool, ℕ, Option, None, Some, false, true}
use Rattle.nomos_machine.specs.State.{State, empty}

-- the state of the machine in the box, and the empty one where there is no box
abbrev pub state_in : {A : Type 0} → (A → State) → Option A → State
state_in state None = empty
state_in state (Some machine) = state machine

-- the state that is marked: without a box the empty one, where that was marked
abbrev pub marked_in : {A : Type 0} → (A → Option State) → Bool → Option A → Option State
marked_in marked false None = None
marked_in marked true None = Some empty
marked_in marked is_marked (Some machine) = marked machine

-- for how many firings ahead there is room: without a box for none
abbrev pub spare_in : {A : Type 0} → (A → ℕ) → Option A → ℕ
spare_in spare None = 0
spare_in spare (Some machine) = spare machine
