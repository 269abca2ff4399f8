use Rattle.nomos_equality.proofs.ClassLemmas.{forest-more}
use Rattle.nomos_equality.proofs.type_classes.TypeClasses.make_room.Goals as goal

pub invariant_of-self : goal.invariant_of-self
invariant_of-self c =
    forest-more c.self.inside.above.items c.fill_in_place.new.above.items _ c.self.invariant c.fill_in_place.ensures
