-- A mirror of the code: the lines of channels and of processes that wait, as they are found one by one.
use Rattle.std.specs.Prelude.{ℕ, List, [], Option, Some, None}
use Rattle.nomos_ir.specs.declared.ids.TypeId.{TypeId}
use Rattle.nomos_types.specs.Acceptance.{Acceptance}
use Rattle.nomos_machine.specs.Optional.{◌>>=◌}
use Rattle.nomos_machine.specs.State.{State, type_of}
use Rattle.nomos_machine.specs.declared.object.Object.{Object}
use Rattle.nomos_deeds.specs.Readers.{keeper, waits}
use Rattle.nomos_report.specs.Reported.{waits_line}
use Rattle.nomos_report.specs.ShownState.{channel_line}

-- the line of a name with the type that it has
abbrev pub line_at : Acceptance → State → ℕ → Option TypeId → List ℕ
line_at a s name (Some t) = channel_line a s (name, t)
line_at a s name None = []

abbrev pub name_line : Acceptance → State → ℕ → List ℕ
name_line a s name = line_at a s name (type_of s.types name)

-- the line of a process that waits, by its number
abbrev pub waiting_line : Acceptance → List Object → ℕ → List ℕ
waiting_line a objects pid = waits_line pid (waits a objects pid) (waits a objects pid >>= keeper objects)
