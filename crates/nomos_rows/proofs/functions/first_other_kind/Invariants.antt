use Rattle.nomos_rows.specs.mirror.Declarations.{FunctionFault, FunctionFine}
use Rattle.nomos_rows.specs.mirror.FirstFault.{TellsBelow}
use Rattle.nomos_rows.proofs.functions.first_other_kind.Given as goal

-- the functions so far
abbrev pub invariant-loop-function : goal.invariant-loop-function
invariant-loop-function l =
    TellsBelow (FunctionFault l.program) (FunctionFine l.program) l.function-index l.first
