-- The lines of the accounts that are left are left to write.
use Rattle.std.proofs.Common.{◌≡◌, drop, map, zip}
use Rattle.nomos_ir.specs.declared.lists.ProgramLists.{ProgramLists}
use Rattle.nomos_snapshot.specs.declared.line.SnapshotLine.TheVariants as line
use Rattle.nomos_snapshot.proofs.SavingLemmas.{IsAhead}
use Rattle.nomos_snapshot.proofs.saving.push_accounts.Given as goal

abbrev pub invariant-loop-dths : goal.invariant-loop-dths
invariant-loop-dths g l =
    ((lists : ProgramLists) → IsAhead lists l.fn.text.items l.text.items
    (map (λ e. line.Account e.0 e.1) (zip l.ledger.accounts l.balances))
    (map (λ e. line.Account e.0 e.1) (zip (drop l.dths-index l.ledger.accounts) (drop l.dths-index l.balances))))
    × (l.number ≡ l.dths-index)
