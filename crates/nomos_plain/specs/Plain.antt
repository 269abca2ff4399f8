-- What a plain state is seen as.
use Rattle.std.specs.Prelude.{ℕ, ◌/◌}
use Rattle.nomos_machine.specs.State.{State}
use Rattle.nomos_changes.specs.declared.performing.TheConstants.{ROOM_OF_AN_ACT}
use Rattle.nomos_plain.specs.Parts.{state_of}
use Rattle.nomos_plain.specs.declared.plain_parts.PlainParts.{PlainParts}

-- the state, and for how many small changes there is room
pub record Plain : Type 0 where
  pub state : State
  pub room : ℕ

-- what is kept, as it is seen
abbrev pub plain_of : PlainParts → Plain
plain_of s = record { state = state_of s; room = s.room }

-- for how many firings there is room
abbrev pub spare : Plain → ℕ
spare s = s.room / ROOM_OF_AN_ACT
