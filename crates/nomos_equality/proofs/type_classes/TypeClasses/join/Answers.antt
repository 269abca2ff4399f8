use Rattle.std.proofs.Common.{◌≡◌, ◌++◌, ◌∷◌, [], ℕ, List, sym, subst, ◌∙◌}
use Rattle.nomos_ir.specs.declared.ids.TypeId.{TypeId}
use Rattle.nomos_equality.specs.mirror.Linking.{Linked, through, back}
use Rattle.nomos_equality.proofs.ClassLemmas.{linked-joined}
use Rattle.nomos_equality.proofs.type_classes.TypeClasses.join.Goals as goal

-- what both types are linked to
linked-both : (old mid new : List (TypeId × TypeId)) (s t low high : ℕ) → mid ≡ old → new ≡ mid → Linked mid s low
    → Linked new t high → Linked old s low × Linked old t high
linked-both old mid new s t low high first second left right = (
  subst (λ (l : List (TypeId × TypeId)). Linked l s low) first left,
  subst (λ (l : List (TypeId × TypeId)). Linked l t high) (second ∙ first) right,
)

linked-then : (old mid new made : List (TypeId × TypeId)) (left right : TypeId) (low high : ℕ) → mid ≡ old → new ≡ mid
    → made ≡ new ++ (left, right) ∷ [] → Linked mid left.0 low → Linked new right.0 high → Linked made low high
linked-then old mid new made left right low high first second told below above =
    subst (λ (l : List (TypeId × TypeId)). Linked l low high) (sym told)
    (linked-joined new left right low high
    (subst (λ (l : List (TypeId × TypeId)). Linked l left.0 low) (sym second) below) above)

pub returns-then-low-high : goal.returns-then-low-high
returns-then-low-high c =
    let both = linked-both c.args.self.now c.least-low.new.self c.least-high.new.self c.args.left.0 c.args.right.0
    c.least-low.result c.least-high.result c.least-low.ensures.same c.least-high.ensures.same c.least-low.ensures.linked
    c.least-high.ensures.linked in (
      through c.args.left.0 c.least-low.result c.args.right.0 both.0
          (back c.args.right.0 c.least-low.result
          (subst (λ (n : ℕ). Linked c.args.self.now c.args.right.0 n) (sym c.if-low-high.true) both.1)),
      c.least-high.ensures.same ∙ c.least-low.ensures.same,
    )

pub put_over-requires-clause-linked : goal.put_over-requires-clause-linked
put_over-requires-clause-linked c =
    back c.least-low.result c.least-high.result
    (linked-then c.args.self.now c.least-low.new.self c.least-high.new.self c.tell.new.self c.args.left c.args.right
    c.least-low.result c.least-high.result c.least-low.ensures.same c.least-high.ensures.same c.tell.ensures
    c.least-low.ensures.linked c.least-high.ensures.linked)

pub put_over-requires-else-low-high-2-clause-linked : goal.put_over-requires-else-low-high-2-clause-linked
put_over-requires-else-low-high-2-clause-linked c =
    linked-then c.args.self.now c.least-low.new.self c.least-high.new.self c.tell.new.self c.args.left c.args.right
    c.least-low.result c.least-high.result c.least-low.ensures.same c.least-high.ensures.same c.tell.ensures
    c.least-low.ensures.linked c.least-high.ensures.linked
