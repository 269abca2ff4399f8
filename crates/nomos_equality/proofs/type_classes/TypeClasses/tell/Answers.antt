use Rattle.std.proofs.Common.{List, sym, subst}
use Rattle.nomos_ir.specs.declared.ids.TypeId.{TypeId}
use Rattle.nomos_equality.specs.mirror.Linking.{IsForest}
use Rattle.nomos_equality.proofs.ClassLemmas.{linked-more}
use Rattle.nomos_equality.proofs.type_classes.TypeClasses.tell.Goals as goal

pub invariant_of-self : goal.invariant_of-self
invariant_of-self c =
    subst (λ (l : List (TypeId × TypeId)). IsForest c.self.inside.above.items l) (sym c.then.ensures)
    (λ i inside. let h = c.self.invariant i inside in (h.0, linked-more _ _ _ _ h.1))
