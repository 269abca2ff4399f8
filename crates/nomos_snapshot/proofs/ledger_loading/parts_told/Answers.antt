-- A list that no machine keeps stands in no typed state.
use Rattle.std.proofs.Common.{subst, sym}
use Rattle.nomos_legal.specs.Ledger.{LedgerState}
use Rattle.nomos_snapshot.specs.Loading.{TellsLedger}
use Rattle.nomos_snapshot.proofs.LoadLemmas.{wide-loads}
use Rattle.nomos_snapshot.proofs.ledger_loading.parts_told.Goals as goal

pub returns-then-has_wide_list-clause-err : goal.returns-then-has_wide_list-clause-err
returns-then-has_wide_list-clause-err c = λ other.
    wide-loads c.know.ensures.accepted c.in_ok-gathering.ensures.ok
    (c.has_wide_list.ensures c.if-has_wide_list.true)

pub returns-clause-ok : goal.returns-clause-ok
returns-clause-ok c =
    subst (λ (l : LedgerState). TellsLedger c.args.accepted.now c.args.text.now l) (sym c.in_ok-parts.ensures)
    c.in_ok-gathering.ensures.ok
