use Rattle.std.proofs.Common.{◌∷◌}
use Rattle.std.proofs.lemmas.Bool.{false≢true}
use Rattle.std.proofs.lemmas.Result.{err_from_is_err_and}
use Rattle.nomos_replay.specs.Stand.{before}
use Rattle.nomos_replay.proofs.FormLemmas.{item-form, wants-item}
use Rattle.nomos_replay.proofs.ReadingLemmas.{stops-no_form, stops-no_line}
use Rattle.nomos_replay.proofs.told_item.read_item_line.Goals as goal

pub returns-in_err-line-clause-err : goal.returns-in_err-line-clause-err
returns-in_err-line-clause-err c =
    let p = err_from_is_err_and c.from_residual.result c.from_residual.ensures.1 in
    rw (p.1, p.2)
    (λ told i first all items is. stops-no_line c.args.trial.now.accepted.now first all c.args.source.now
    (before c.args.trial.now.version told (i ∷ items))
    (wants-item c.args.trial.now.version told i items c.args.at c.args.source.now.lines is) _ c.in_err-line.ensures.err)

pub returns-else-named-clause-err : goal.returns-else-named-clause-err
returns-else-named-clause-err c = λ told i first all items is.
    stops-no_form c.args.trial.now.accepted.now first all c.know.ensures.accepted c.in_ok-line.ensures.ok
    (wants-item c.args.trial.now.version told i items c.args.at c.args.source.now.lines is)
    (item-form c.args.trial.now.version told i items c.args.at _ is (λ same. false≢true (c.if-named.ensures.1 same)))
