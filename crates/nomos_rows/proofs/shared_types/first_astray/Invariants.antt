use Rattle.nomos_equality.specs.Comparing.{HasCompared}
use Rattle.nomos_rows.specs.mirror.FirstFault.{TellsBelow}
use Rattle.nomos_rows.specs.mirror.Ups.{GoesAstray, GoesBack, IfNone, PairsBelow}
use Rattle.nomos_rows.proofs.shared_types.first_astray.Given as goal

-- the type nodes so far
abbrev pub invariant-loop-t : goal.invariant-loop-t
invariant-loop-t l =
    HasCompared l.program l.equalities
    × TellsBelow (GoesAstray l.program) (GoesBack l.program) l.t l.first
    × IfNone (PairsBelow l.program l.t l.fn.equalities l.equalities) l.first
