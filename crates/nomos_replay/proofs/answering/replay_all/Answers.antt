use Rattle.std.proofs.Common.{◌≡◌, ◌∙◌, sym}
use Rattle.std.proofs.lemmas.Bool.{false≢true}
use Rattle.std.proofs.lemmas.Result.{err_from_is_err_and}
use Rattle.nomos_replay.proofs.WalkLemmas.{told-all, told-too_many}
use Rattle.nomos_replay.proofs.answering.replay_all.Goals as goal

pub returns-in_err-ledger : goal.returns-in_err-ledger
returns-in_err-ledger g c =
    let same : c.as_slice-items.result.now ≡ c.args.script.now = c.as_slice-items.ensures ∙ c.items.ensures.items in
    let p = err_from_is_err_and c.from_residual-in_err-ledger.result c.from_residual-in_err-ledger.ensures.1 in
    rw (p.1, p.2) (rw (c.in_ok-walk.ensures, same) at c.in_err-ledger.ensures.tells)

pub returns-then-not-over : goal.returns-then-not-over
returns-then-not-over g c = λ all.
    let same : c.as_slice-items.result.now ≡ c.args.script.now = c.as_slice-items.ensures ∙ c.items.ensures.items in
    let so = rw (c.in_ok-walk.ensures, same) at c.in_ok-ledger.ensures.tells in
    rw c.is_over-over.ensures.at
    (told-too_many c.args.trial.now.accepted.now c.args.trial.now.version c.args.from c.args.limit
    c.args.trial.now.wanted so (λ is. false≢true (sym c.if-not-over.true ∙ c.is_over-over.ensures.over.1 is)) all)

pub returns : goal.returns
returns g c =
    let same : c.as_slice-items.result.now ≡ c.args.script.now = c.as_slice-items.ensures ∙ c.items.ensures.items in
    let so = rw (c.in_ok-walk.ensures, same) at c.in_ok-ledger.ensures.tells in
    told-all c.args.trial.now.accepted.now c.args.trial.now.version c.args.from c.args.limit c.args.trial.now.wanted so
    c.whole.result (c.is_over-over.ensures.over.0 c.if-not-over.false) c.whole.ensures.journal c.whole.ensures.ledger
    c.whole.ensures.papers
