-- What is left of the variables is left to write.
use Rattle.std.proofs.Common.{length}
use Rattle.nomos_ir.specs.declared.lists.ProgramLists.{ProgramLists}
use Rattle.nomos_snapshot.specs.Text.{variable_lines}
use Rattle.nomos_snapshot.specs.mirror.Remaining.{IsRemaining, remaining_lines}
use Rattle.nomos_snapshot.proofs.SavingLemmas.{IsAhead}
use Rattle.nomos_snapshot.proofs.saving.push_variables.Given as goal

abbrev pub invariant-loop-variable : goal.invariant-loop-variable
invariant-loop-variable l =
    ((lists : ProgramLists) → IsAhead lists l.fn.text.items l.text.items (variable_lines l.process)
    (remaining_lines l.left))
    × IsRemaining l.left

abbrev pub decreases-loop-variable : goal.decreases-loop-variable
decreases-loop-variable l = length (remaining_lines l.left)
