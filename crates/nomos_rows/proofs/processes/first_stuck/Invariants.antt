use Rattle.std.proofs.Common.{All}
use Rattle.nomos_equality.specs.Comparing.{HasCompared}
use Rattle.nomos_forms.specs.Bounds.{IsForm}
use Rattle.nomos_ir.specs.Amounts.{star_count}
use Rattle.nomos_rows.specs.mirror.Declarations.{ProcessFault, ProcessFine}
use Rattle.nomos_rows.specs.mirror.Processes.{Gathers}
use Rattle.nomos_rows.specs.mirror.FirstFault.{TellsBelow}
use Rattle.nomos_rows.specs.mirror.Ups.{IfNone}
use Rattle.nomos_rows.proofs.processes.first_stuck.Given as goal

-- the processes so far
abbrev pub invariant-loop-p : goal.invariant-loop-p
invariant-loop-p l =
    HasCompared l.program l.equalities
    × TellsBelow (ProcessFault l.program) (ProcessFine l.program) l.p l.first
    × IfNone (Gathers l.program l.p l.fn.equalities l.equalities l.gathered.forms.items l.gathered.pairs.items) l.first
    × All (IsForm (star_count l.program)) l.gathered.forms.items
