use Rattle.std.proofs.Common.{◌∙◌, ℕ, length, subst, sym}
use Rattle.std.proofs.lemmas.Result.{err_from_is_err_and}
use Rattle.nomos_legal.specs.Ending.{IsAllowed}
use Rattle.nomos_ledger.specs.Running.{RunsOn}
use Rattle.nomos_replay.proofs.OnwardLemmas.{batch-on}
use Rattle.nomos_replay.proofs.told_item.replay_batch.Goals as goal

pub watch-requires-clause-watched : goal.watch-requires-clause-watched
watch-requires-clause-watched g c = c.of-watched.ensures.watched c.args.trial.now.accepted.now

pub returns-in_err-end-clause-tells : goal.returns-in_err-end-clause-tells
returns-in_err-end-clause-tells g c = λ told i begun limit.
    let p = err_from_is_err_and c.from_residual.result c.from_residual.ensures.1 in
    let read = rw (c.watch.ensures.world, c.of-watched.ensures.world) at c.in_err-end.ensures.read in
    rw (p.1, p.2)
    (λ first all items. read first all items begun.batch told (limit ∙ sym c.next_limit-limit.ensures.limit))

pub returns-clause-tells : goal.returns-clause-tells
returns-clause-tells g c = λ told i begun limit.
    let a = c.args.trial.now.accepted.now in
    let w = c.args.under.world in
    let u = c.into_world-world.result in
    let end = c.in_ok-end.end in
    let ran = rw (c.watch.ensures.world, c.of-watched.ensures.world, ← c.into_world-world.ensures) at
    c.in_ok-end.ensures.ran in
    let read = rw (c.watch.ensures.world, c.of-watched.ensures.world, ← c.into_world-world.ensures) at
    c.in_ok-end.ensures.read in
    let allowed = rw (← c.into_world-world.ensures) at c.in_ok-end.ensures.allowed in
    batch-on a c.args.trial.now.version told c.requires.program end c.in_ok-passed.passed begun
    (subst (λ (n : ℕ). RunsOn a n w u) c.next_limit-limit.ensures.limit ran)
    (subst (λ (n : ℕ). IsAllowed a u.state (length u.firings) n end) c.next_limit-limit.ensures.limit allowed)
    c.in_ok-passed.ensures.ledger c.in_ok-passed.ensures.entry c.in_ok-passed.ensures.walk
    (λ first all items. read first all items begun.batch told (limit ∙ sym c.next_limit-limit.ensures.limit))
