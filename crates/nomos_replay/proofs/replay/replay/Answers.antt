use Rattle.std.proofs.Common.{subst, sym}
use Rattle.nomos_legal.specs.Ledger.{LedgerState}
use Rattle.nomos_legal.specs.Legal.{TellsFrom}
use Rattle.nomos_replay.proofs.replay.replay.Goals as goal

pub replay_from-requires-clause-stands : goal.replay_from-requires-clause-stands
replay_from-requires-clause-stands g c = c.empty.ensures.stands c.args.accepted.now

pub returns-clause-legal : goal.returns-clause-legal
returns-clause-legal g c = λ v journal is.
    c.replay_from.ensures.legal v journal
    (record {
      passages = is.passages;
      last = is.last;
      tells =
          subst (λ (l : LedgerState). TellsFrom c.args.accepted.now l c.args.script.now journal is.passages is.last)
          (sym c.empty.ensures.empty) is.tells;
      lines = is.lines;
    })
