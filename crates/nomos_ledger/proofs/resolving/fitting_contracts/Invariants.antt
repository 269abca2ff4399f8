use Rattle.std.proofs.Common.{◌≡◌, take}
use Rattle.nomos_legal.specs.LineStarts.{ContractsFit}
use Rattle.nomos_ledger.proofs.resolving.fitting_contracts.Given as goal

-- the shared names so far are those for the parameters so far
abbrev pub invariant-loop-at : goal.invariant-loop-at
invariant-loop-at g l =
    (l.arguments ≡ l.initial.arguments)
    × ContractsFit l.initial.arguments l.fn.books.now (take l.at l.names) (take l.at l.pars) l.found.items
