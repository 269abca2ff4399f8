use Rattle.std.proofs.Common.{sym, subst}
use Rattle.nomos_legal.specs.Ledger.{LedgerState}
use Rattle.nomos_legal.specs.Legal.{IsLegalFrom}
use Rattle.nomos_replay.proofs.retelling.journal_text.Goals as goal

pub papers_by-requires-clause-stands : goal.papers_by-requires-clause-stands
papers_by-requires-clause-stands g c = c.empty-from.ensures.stands c.args.accepted.now

pub papers_by-requires-clause-legal : goal.papers_by-requires-clause-legal
papers_by-requires-clause-legal g c =
    subst (λ (l : LedgerState). IsLegalFrom c.args.accepted.now l c.args.script.now c.args.journal.now)
    (sym c.empty-from.ensures.empty) c.requires
