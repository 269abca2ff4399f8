use Rattle.std.proofs.lemmas.Result.{err_from_is_err_and}
use Rattle.nomos_replay.proofs.WalkLemmas.{answered-legal, answered-once, answered-stands, answered-written, ledger-standing, legal-refused, legal-told, one-refusal, text-legal}
use Rattle.nomos_replay.proofs.replay.replay_from.Goals as goal

pub returns-in_err-whole-clause-err : goal.returns-in_err-whole-clause-err
returns-in_err-whole-clause-err g c =
    let p = err_from_is_err_and c.from_residual.result c.from_residual.ensures.1 in rw (p.1, p.2) c.in_err-whole.ensures

pub returns-in_err-whole-clause-legal : goal.returns-in_err-whole-clause-legal
returns-in_err-whole-clause-legal g c = λ v journal is.
    let p = err_from_is_err_and c.from_residual.result c.from_residual.ensures.1 in
    let accepted = c.know.ensures.accepted in
    let script = c.items-items.ensures in
    let standing = ledger-standing c.requires.stands c.account-account.ensures.ledger in
    rw (p.1, p.2)
    (legal-refused c.args.accepted.now c.args.from c.args.script.now c.args.bytes.now accepted journal
    (text-legal accepted standing c.requires.numbers script.size script.written v journal is) c.in_err-whole.field-0.0
    c.in_err-whole.ensures)

pub returns-in_err-whole-clause-refuses : goal.returns-in_err-whole-clause-refuses
returns-in_err-whole-clause-refuses g c = λ why given.
    let p = err_from_is_err_and c.from_residual.result c.from_residual.ensures.1 in
    rw (p.1, p.2)
    (one-refusal c.args.accepted.now c.args.from c.args.script.now c.args.bytes.now c.know.ensures.accepted
    why given c.in_err-whole.field-0.0 c.in_err-whole.ensures)

pub with_report-requires : goal.with_report-requires
with_report-requires g c =
    answered-written c.args.accepted.now c.args.from c.args.script.now c.args.bytes.now c.in_ok-whole.ensures

pub returns-clause-ok : goal.returns-clause-ok
returns-clause-ok g c =
    let made = c.with_report.ensures in
    answered-legal c.args.accepted.now c.args.from c.args.script.now c.args.bytes.now c.in_ok-whole.ensures
    c.with_report.result.journal c.with_report.result.ledger c.with_report.result.report.items made.journal made.ledger
    made.report

pub returns-clause-legal : goal.returns-clause-legal
returns-clause-legal g c = λ v journal is.
    let accepted = c.know.ensures.accepted in
    let script = c.items-items.ensures in
    let standing = ledger-standing c.requires.stands c.account-account.ensures.ledger in
    rw c.with_report.ensures.journal
    (legal-told c.args.accepted.now c.args.from c.args.script.now c.args.bytes.now c.in_ok-whole.ensures accepted
    journal
    (text-legal accepted standing c.requires.numbers script.size script.written v journal is))

pub returns-clause-refuses : goal.returns-clause-refuses
returns-clause-refuses g c = λ why given.
    answered-once c.args.accepted.now c.args.from c.args.script.now c.args.bytes.now c.in_ok-whole.ensures
    c.know.ensures.accepted why given

pub returns-clause-stands : goal.returns-clause-stands
returns-clause-stands g c =
    rw c.with_report.ensures.ledger
    (answered-stands c.args.accepted.now c.args.from c.args.script.now c.args.bytes.now c.in_ok-whole.ensures
    c.know.ensures.accepted (ledger-standing c.requires.stands c.account-account.ensures.ledger))
