use Rattle.std.proofs.Common.{◌↔◌, drop}
use Rattle.nomos_legal.specs.LineStarts.{OneEach, ValueFits}
use Rattle.nomos_ledger.proofs.value_fits.values_fit.Given as goal

-- all values fit exactly where those that are left fit the parameters that are left
abbrev pub invariant-loop-par : goal.invariant-loop-par
invariant-loop-par l = OneEach ValueFits l.values l.pars ↔ OneEach ValueFits l.left (drop l.par-index l.pars)
