use Rattle.std.proofs.Common.{◌≡◌, List, subst, ◌∙◌, eqb-true}
use Rattle.nomos_ir.specs.declared.ids.TypeId.{TypeId}
use Rattle.nomos_equality.specs.mirror.Linking.{Linked}
use Rattle.nomos_equality.proofs.ClassLemmas.{linked-least}
use Rattle.nomos_equality.proofs.type_classes.TypeClasses.are_one.Goals as goal

pub returns-clause-linked : goal.returns-clause-linked
returns-clause-linked c =
    λ is. let one : c.least-low.result ≡ c.least-high.result =
    eqb-true c.least-low.result c.least-high.result is in
    linked-least c.args.self.now c.args.left.0 c.args.right.0 c.least-low.result c.least-high.result one
    (subst (λ (l : List (TypeId × TypeId)). Linked l c.args.left.0 c.least-low.result) c.least-low.ensures.same
    c.least-low.ensures.linked)
    (subst (λ (l : List (TypeId × TypeId)). Linked l c.args.right.0 c.least-high.result)
    (c.least-high.ensures.same ∙ c.least-low.ensures.same) c.least-high.ensures.linked)
