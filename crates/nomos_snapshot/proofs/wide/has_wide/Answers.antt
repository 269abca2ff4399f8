-- The list at a place.
use Rattle.nomos_snapshot.proofs.WideLemmas.{has-wide}
use Rattle.nomos_snapshot.proofs.wide.has_wide.Goals as goal

pub returns-then-is_wide : goal.returns-then-is_wide
returns-then-is_wide c = λ so.
    has-wide c.args.process.now c.as_slice-entry-items.result.now c.loop-entry.entry-index c.entry-item.result
    c.as_slice-entry-items.ensures.value c.loop-entry-test.true c.entry-item.is (c.is_wide.ensures.0 c.if-is_wide.true)
