use Rattle.nomos_types.proofs.ModeTableLaws.{IsDoneFrom}
use Rattle.nomos_types.proofs.mode_table.set_all.Given as goal

-- the nodes from i on have set the modes of their parts
abbrev pub invariant-loop-i : goal.invariant-loop-i
invariant-loop-i l = IsDoneFrom l.program l.i l.modes

abbrev pub decreases-loop-i : goal.decreases-loop-i
decreases-loop-i l = l.i
