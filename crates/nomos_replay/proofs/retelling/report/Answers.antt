use Rattle.std.proofs.Common.{sym, subst}
use Rattle.nomos_legal.specs.Ledger.{LedgerState}
use Rattle.nomos_legal.specs.Legal.{IsLegalFrom}
use Rattle.nomos_replay.proofs.retelling.report.Goals as goal

pub report_from-requires-clause-stands : goal.report_from-requires-clause-stands
report_from-requires-clause-stands g c = c.empty.ensures.stands c.args.accepted.now

pub report_from-requires-clause-legal : goal.report_from-requires-clause-legal
report_from-requires-clause-legal g c =
    subst (λ (l : LedgerState). IsLegalFrom c.args.accepted.now l c.args.script.now c.args.journal.now)
    (sym c.empty.ensures.empty) c.requires
