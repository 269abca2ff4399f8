-- Deeds, steps and faults.
use Rattle.std.specs.Prelude.{ℕ, Option, Some, None, slice_get, IsSome, Ok, Err}
use Rattle.nomos_ir.specs.CodeParts.{code_terms}
use Rattle.nomos_ir.specs.declared.code_node.CodeNode.{CodeNode}
use Rattle.nomos_ir.specs.declared.fault.Fault.{Fault}
use Rattle.nomos_types.specs.Acceptance.{Acceptance}
use Rattle.nomos_machine.specs.Optional.{◌>>=◌}
use Rattle.nomos_machine.specs.Change.{changed}
use Rattle.nomos_machine.specs.Deeds.{Deed, changes, has_fault, deed_at}
use Rattle.nomos_ir.specs.TermsEvaluation.{TermsResult, terms_evaluation}
use Rattle.nomos_machine.specs.State.{State, process_at}
use Rattle.nomos_machine.specs.declared.object.Process.{Process}

-- What a process does at an instruction whose terms come to this. So a term's fault comes before all else.
abbrev pub deed_by : Acceptance → State → Process → CodeNode → TermsResult → Option Deed
deed_by a s p n (Ok vs) = deed_at a s p vs n
deed_by a s p n (Err f) = Some (has_fault f)

-- what a process does where it stands
abbrev pub deed : Acceptance → State → Process → Option Deed
deed a s p = do
  n ← slice_get a.program.code p.code.0
  deed_by a s p n (terms_evaluation a.program p.values (code_terms n))

-- what the process with this number does
abbrev pub deed_of : Acceptance → State → ℕ → Option Deed
deed_of a s pid = process_at s pid >>= deed a s

-- the state behind what a process does; behind a fault there is none
abbrev pub state_after : State → Deed → Option State
state_after s (changes c) = Some (changed s c)
state_after s (has_fault f) = None

-- the fault that an instruction has, if it has one
abbrev pub fault_in : Deed → Option Fault
fault_in (changes c) = None
fault_in (has_fault f) = Some f

-- The state after the firing of the process with this number, or none where it has no step.
abbrev pub step : Acceptance → State → ℕ → Option State
step a s pid = deed_of a s pid >>= state_after s

-- The fault of the process with this number, or none where it has none.
abbrev pub fault : Acceptance → State → ℕ → Option Fault
fault a s pid = deed_of a s pid >>= fault_in

-- A process is ready that has a step or a fault.
abbrev pub IsReady : Acceptance → State → ℕ → Type 0
IsReady a s pid = IsSome (deed_of a s pid)
