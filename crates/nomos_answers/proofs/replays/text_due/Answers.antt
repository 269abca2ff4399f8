use Rattle.std.proofs.Common.{Some, inr, refl}
use Rattle.nomos_answers.proofs.DueLemmas.{due-refused, due-replayed}
use Rattle.nomos_answers.proofs.SourceLemmas.{if_ok-map}
use Rattle.nomos_answers.proofs.replays.text_due.Goals as goal

pub returns-in-Ok-clause-ok : goal.returns-in-Ok-clause-ok
returns-in-Ok-clause-ok g c = λ counts.
    let r = c.in-Ok.replayed in
    let made = c.replayed_due.ensures in
    due-replayed c.args.accepted.now c.args.script.now c.args.bytes.now counts c.replayed_due.result r.journal r.ledger
    r.report c.in-Ok.ensures.ok c.in-Ok.ensures.stands made.status made.out made.kept made.journal

pub returns-in-Ok-clause-legal : goal.returns-in-Ok-clause-legal
returns-in-Ok-clause-legal g c = λ v kept is.
    let same = c.in-Ok.ensures.legal v kept is in
    let made = c.replayed_due.ensures in
    inr (rw same at made.journal, rw same at made.status)

pub returns-in-Err : goal.returns-in-Err
returns-in-Err g c =
    let refused = c.refused_due.ensures in
    record {
      ok = λ counts.
          due-refused c.args.accepted.now c.args.script.now (record { left = Some c.args.bytes.now; counts = counts })
          c.args.bytes.now c.in-Err.why c.refused_due.result refl c.in-Err.ensures.err (rw c.unit.ensures at refused.ok)
          refused.known;
      legal = λ v kept is.
          if_ok-map c.refused_due.result _ _
          (λ due known. absurd (known (c.in-Err.ensures.legal v kept is))) refused.known;
      err = refused.err;
    }
