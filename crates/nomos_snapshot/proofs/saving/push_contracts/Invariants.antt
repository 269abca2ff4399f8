-- The lines of the contracts that are left are left to write.
use Rattle.std.proofs.Common.{drop, map}
use Rattle.nomos_ir.specs.declared.lists.ProgramLists.{ProgramLists}
use Rattle.nomos_snapshot.specs.declared.line.SnapshotLine.TheVariants as line
use Rattle.nomos_snapshot.proofs.SavingLemmas.{IsAhead}
use Rattle.nomos_snapshot.proofs.saving.push_contracts.Given as goal

abbrev pub invariant-loop-place : goal.invariant-loop-place
invariant-loop-place g l =
    (lists : ProgramLists) → IsAhead lists l.fn.text.items l.text.items
    (map (λ c. line.Contract c.0 c.1) l.ledger.contracts)
    (map (λ c. line.Contract c.0 c.1) (drop l.place l.ledger.contracts))
