-- What is worked out of a process before it acts.
use Rattle.std.specs.Prelude.{◌≡◌, ℕ, Option, Some, None, slice_get}
use Rattle.nomos_ir.specs.TermsEvaluation.{TermsResult, instruction_evaluation}
use Rattle.nomos_ir.specs.declared.code_node.CodeNode.{CodeNode}
use Rattle.nomos_ir.specs.declared.fault.Fault.{Fault}
use Rattle.nomos_ir.specs.declared.ids.CodeId.{CodeId}
use Rattle.nomos_types.specs.Acceptance.{Acceptance}
use Rattle.nomos_machine.specs.State.{State, process_at}
use Rattle.nomos_machine.specs.Step.{deed}
use Rattle.nomos_machine.specs.declared.object.Process.{Process}
use Rattle.nomos_deeds.specs.Acts.{doing_deed}
use Rattle.nomos_deeds.specs.declared.act.Doing.{Doing}
use Rattle.nomos_deeds.specs.declared.act.Doing.TheVariants as doing
use Rattle.nomos_deeds.specs.declared.decide.Decision.{Decision}

-- the fault that is done, if one is
abbrev pub fault_in_doing : Doing → Option Fault
fault_in_doing (doing.Acts what) = None
fault_in_doing (doing.Faults f) = Some f

-- This is what the terms come to of the instruction at which the process of this number stands, among its values.
abbrev pub TermsComeTo : Acceptance → State → ℕ → TermsResult → Type 0
TermsComeTo a s pid outcome = (p : Process) → process_at s pid ≡ Some p
    → outcome ≡ instruction_evaluation a.program p.values p.code.0

-- The process of this number, if there is one, stands here, and this is the instruction there.
abbrev pub StandsAt : Acceptance → State → ℕ → CodeId → CodeNode → Type 0
StandsAt a s pid c n = (p : Process) → process_at s pid ≡ Some p
    → (c ≡ p.code) × (slice_get a.program.code p.code.0 ≡ Some n)

-- Where there is a process of this number, there is no instruction where it stands.
abbrev pub StandsNowhere : Acceptance → State → ℕ → Type 0
StandsNowhere a s pid = (p : Process) → process_at s pid ≡ Some p → slice_get a.program.code p.code.0 ≡ None

-- What is decided is the deed of the process of this number, where it stands at this instruction.
abbrev pub IsDeedAt : Acceptance → State → ℕ → CodeNode → Decision → Type 0
IsDeedAt a s pid n d = (p : Process) → process_at s pid ≡ Some p → slice_get a.program.code p.code.0 ≡ Some n
    → doing_deed a s p d.values d.doing ≡ deed a s p

-- What is decided is the deed of the process of this number.
abbrev pub IsDeedOf : Acceptance → State → ℕ → Decision → Type 0
IsDeedOf a s pid d = (p : Process) → process_at s pid ≡ Some p → doing_deed a s p d.values d.doing ≡ deed a s p
