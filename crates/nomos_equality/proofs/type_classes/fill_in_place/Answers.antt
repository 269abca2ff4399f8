use Rattle.nomos_equality.proofs.ClassLemmas.{in_place-same}
use Rattle.nomos_equality.proofs.type_classes.fill_in_place.Goals as goal

pub loop-above-init : goal.loop-above-init
loop-above-init c = in_place-same c.args.above.now.items
