-- The object at a place.
use Rattle.nomos_snapshot.proofs.WideLemmas.{are-wide}
use Rattle.nomos_snapshot.proofs.wide.are_wide.Goals as goal

pub returns-then-is_wide_object : goal.returns-then-is_wide_object
returns-then-is_wide_object c = λ so.
    are-wide c.args.objects.now c.loop-object.object-index c.object-item.result c.loop-object-test.true c.object-item.is
    (c.is_wide_object.ensures c.if-is_wide_object.true)
