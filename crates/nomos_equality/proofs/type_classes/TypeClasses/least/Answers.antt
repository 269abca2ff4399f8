use Rattle.std.proofs.Common.{◌≡◌, ℕ, List, refl, sym, subst, ◌∙◌}
use Rattle.nomos_ir.specs.declared.ids.TypeId.{TypeId}
use Rattle.nomos_equality.specs.mirror.Linking.{Linked, same, through}
use Rattle.nomos_equality.proofs.type_classes.TypeClasses.least.Goals as goal

pub loop-up-init : goal.loop-up-init
loop-up-init c = record { same = refl; linked = same c.args.t; over = c.over-up.ensures.linked }

pub put_over-requires-clause-linked : goal.put_over-requires-clause-linked
put_over-requires-clause-linked c =
    through c.loop-up.at c.loop-up.up c.over-next.result c.loop-up.invariant.over c.over-next.ensures.linked

linked-onward : (old new : List (TypeId × TypeId)) (t at up next : ℕ) → new ≡ old → Linked old t at → Linked old at up
    → Linked old up next → Linked new t next
linked-onward old new t at up next stays first second third =
    subst (λ (l : List (TypeId × TypeId)). Linked l t next) (sym stays)
    (through t at next first (through at up next second third))

pub loop-up-preserved : goal.loop-up-preserved
loop-up-preserved c =
    record {
      same = c.put_over.ensures ∙ c.loop-up.invariant.same;
      linked = linked-onward c.loop-up.self c.put_over.new.self c.args.t c.loop-up.at c.loop-up.up c.over-next.result
          c.put_over.ensures c.loop-up.invariant.linked c.loop-up.invariant.over c.over-next.ensures.linked;
      over = c.over-up-in-loop-up.ensures.linked;
    }
