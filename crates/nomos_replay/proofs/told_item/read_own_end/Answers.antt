use Rattle.std.proofs.lemmas.Bool.{false≢true}
use Rattle.std.proofs.lemmas.Result.{err_from_is_err_and}
use Rattle.nomos_replay.specs.Spoiled as spoiled
use Rattle.nomos_replay.specs.Stand.{owes}
use Rattle.nomos_replay.proofs.FormLemmas.{owes-form}
use Rattle.nomos_replay.proofs.ReadingLemmas.{stops-no_form, stops-no_line, stops-spoiled}
use Rattle.nomos_replay.proofs.told_item.read_own_end.Goals as goal

pub returns-in_err-line-clause-err : goal.returns-in_err-line-clause-err
returns-in_err-line-clause-err c =
    let p = err_from_is_err_and c.from_residual.result c.from_residual.ensures.1 in
    rw (p.1, p.2)
    (λ told i at after first all items. stops-no_line c.args.trial.now.accepted.now first all c.args.source.now
    (owes c.args.trial.now.version told i at c.args.own after items) tt _ c.in_err-line.ensures.err)

pub returns-in-Err-clause-err : goal.returns-in-Err-clause-err
returns-in-Err-clause-err c = λ told i at after first all items.
    stops-no_form c.args.trial.now.accepted.now first all c.know.ensures.accepted c.in_ok-line.ensures.ok tt
    (owes-form c.args.trial.now.version told i at c.args.own after items _ c.in-Err.ensures.1)

pub returns-else-same-clause-err : goal.returns-else-same-clause-err
returns-else-same-clause-err c = λ told i at after first all items.
    let read = rw c.in-Ok.ensures at c.in_ok-line.ensures.ok in
    stops-spoiled c.args.trial.now.accepted.now first all read
    (spoiled.not_own_end c.args.trial.now.version told i at c.args.own after items c.in-Ok.kept
    (λ is. false≢true (c.if-same.ensures.1 is)))
