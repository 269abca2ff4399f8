use Rattle.nomos_types.specs.mirror.Least.{IsLeast}
use Rattle.nomos_types.specs.mirror.Offences.{OfTransactionsBelow}
use Rattle.nomos_types.proofs.forming.first_of_transactions.Given as goal

-- the definitions so far
abbrev pub invariant-loop-def : goal.invariant-loop-def
invariant-loop-def l = IsLeast (OfTransactionsBelow l.program l.def-index) l.first
