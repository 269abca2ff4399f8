-- What an act makes of a state, before names leave the table of types.
use Rattle.std.specs.Prelude.{ℕ, List, Option, Some, None}
use Rattle.nomos_ir.specs.Value.{Value}
use Rattle.nomos_types.specs.Acceptance.{Acceptance}
use Rattle.nomos_deeds.specs.Acting.{change_of}
use Rattle.nomos_deeds.specs.declared.act.Act.{Act}
use Rattle.nomos_machine.specs.Change.{Change, made}
use Rattle.nomos_machine.specs.State.{State}

-- the state in which a change is made, if there is one
abbrev pub if_made : State → Option Change → State
if_made s (Some c) = made s c
if_made s None = s

abbrev pub made_by_act : Acceptance → State → ℕ → List Value → Act → State
made_by_act a s pid vs what = if_made s (change_of a s pid vs what)
