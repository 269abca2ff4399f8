-- No declaration so far opens a talk by the name.
use Rattle.std.proofs.Common.{◌<◌, ℕ}
use Rattle.nomos_ir.specs.declared.declaration.ProcDecl.{ProcDecl}
use Rattle.nomos_machine.specs.Opening.{IsOpenerNamed}
use Rattle.nomos_monitor.proofs.opener.opener.Given as goal

abbrev pub invariant-loop-at : goal.invariant-loop-at
invariant-loop-at l =
    (number : ℕ) (d : ProcDecl) → number < l.at → IsOpenerNamed l.accepted l.name number d → ⊥
