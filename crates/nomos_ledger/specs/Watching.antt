-- What is known of the processes of a batch that may be ready.
use Rattle.std.specs.Prelude.{Option, Some, None}
use Rattle.nomos_types.specs.Acceptance.{Acceptance}
use Rattle.nomos_machine.specs.State.{State}
use Rattle.nomos_ready.specs.Covering.{Covers}
use Rattle.nomos_ready.specs.declared.awake.Awake.{Awake}

-- those that are told as ones that may be ready cover the state, where any are told
abbrev pub IsWatched : Acceptance → State → Option Awake → Type 0
IsWatched a s (Some w) = Covers a s w
IsWatched a s None = Unit {0}
