use Rattle.std.proofs.Common.{◌∙◌}
use Rattle.nomos_tale.proofs.TaleLemmas.{batch-told}
use Rattle.nomos_tale.proofs.tale.tell_batch.Goals as goal

pub watch-requires-clause-watched : goal.watch-requires-clause-watched
watch-requires-clause-watched g c = c.of-watched.ensures.watched c.accepted-accepted.result.now

pub returns : goal.returns
returns g c = λ l i under.
    batch-told c.accepted-accepted.result.now c.next_limit-limit.result c.args.under.world c.into_world-world.result
    c.watch.new.self.world c.fire_all.new.watched.world c.in_ok-end.end c.in_ok-finish.field-0
    c.accepted-accepted.ensures c.next_limit-limit.ensures.limit (c.watch.ensures.world ∙ c.of-watched.ensures.world)
    c.into_world-world.ensures under c.in_ok-end.ensures.runs c.in_ok-end.ensures.end c.in_ok-finish.ensures.ledger
    c.in_ok-finish.ensures.entry c.in_ok-finish.ensures.walk
