use Rattle.std.proofs.Common.{◌<◌, ◌+◌, length, arith}
use Rattle.nomos_state.specs.Indexed.{held_now, standing_at}
use Rattle.nomos_state.proofs.CopyLemmas.{objects-next, objects_on, pushed}
use Rattle.nomos_state.proofs.plain_data.copy_objects.Goals as goal

pub loop-place-preserved : goal.loop-place-preserved
loop-place-preserved c =
    let h = held_now c.args.contents.now in
    let place = c.loop-place.place in
    let within : place < length h.slots = omega arith in
    pushed c.loop-place.made.items c.push_object.new.made.items (standing_at h place) (objects_on h (place + 1))
    (objects_on h place) (objects_on h 0) c.in_ok-push_object.ensures (objects-next h c.requires place within)
    c.loop-place.invariant
