use Rattle.std.proofs.Common.{◌≡◌, ◌∙◌, ◌+◌, ◌++◌, ◌∷◌, ◌<◌, ℕ, List, [], All, length, sym, ap, subst, append_assoc, arith}
use Rattle.std.proofs.lemmas.List.Elements.{All-head, All-tail}
use Rattle.std.specs.Vec.Iter.{into_iter_items}
use Rattle.nomos_machine.specs.Objects.{object_number}
use Rattle.nomos_machine.specs.State.{State}
use Rattle.nomos_machine.specs.TypedState.{HasVariables}
use Rattle.nomos_machine.specs.declared.object.Object.{Object}
use Rattle.nomos_restore.specs.Numbering.{AreNext}
use Rattle.nomos_restore.proofs.BuiltLemmas.{all-come, none_left, objects-drawn, objects-more}
use Rattle.nomos_restore.proofs.NumberingLemmas.{first-above, first-below, rest-next}
use Rattle.nomos_restore.proofs.objects.come_objects.Goals as goal

pub come_object_at-requires : goal.come_object_at-requires
come_object_at-requires g c =
    let inv = c.loop-o.invariant in
    let now = g.P.Sight.state c.loop-o.parts in
    let o = c.in-Some.o in
    let after = into_iter_items c.next.new.self in
    let step : into_iter_items c.loop-o.o-iterator ≡ o ∷ after = c.in-Some.ensures.steps.0 in
    let are = subst (AreNext object_number now.next_object c.args.next_object) step inv.next in
    let below : object_number o < c.args.next_object =
    first-below object_number now.next_object c.args.next_object o after are in
    record {
      room = omega (arith, inv.room, ap length step);
      above = first-above object_number now.next_object c.args.next_object o after are;
      fits = omega (arith, below, c.ranges.next_object.fits);
      variables = All-head HasVariables o after (subst (All HasVariables) step inv.variables);
    }

pub loop-o-preserved : goal.loop-o-preserved
loop-o-preserved g c =
    let at = c.loop-o in
    let inv = at.invariant in
    let first = g.P.Sight.state c.args.parts.now in
    let now = g.P.Sight.state at.parts in
    let new = g.P.Sight.state c.come_object_at.new.parts in
    let o = c.in-Some.o in
    let after = into_iter_items c.next.new.self in
    let step : into_iter_items at.o-iterator ≡ o ∷ after = c.in-Some.ensures.steps.0 in
    let are = subst (AreNext object_number now.next_object c.args.next_object) step inv.next in
    let below : object_number o < c.args.next_object =
    first-below object_number now.next_object c.args.next_object o after are in
    let comes = c.in_ok-come_object_at.ensures.ok in
    let drawn : object_number o + 1 ≡ new.next_object = sym (ap (λ (s : State). s.next_object) comes) in
    record {
      state = objects-more first now new at.yielded o inv.state comes;
      next =
          subst (λ (n : ℕ). AreNext object_number n c.args.next_object after) drawn
          (rest-next object_number now.next_object c.args.next_object o after are);
      variables = All-tail HasVariables o after (subst (All HasVariables) step inv.variables);
      within = omega (arith, drawn, below);
      rest = append_assoc at.yielded (o ∷ []) after ∙ (ap (λ l. at.yielded ++ l) (sym step) ∙ inv.rest);
      long = omega (arith, c.in-Some.ensures.steps.1, inv.long, ap length step);
      room = omega (arith, inv.room, ap length step, c.come_object_at.ensures.room);
      marked = c.come_object_at.ensures.marked ∙ inv.marked;
    }

pub returns-clause-ok : goal.returns-clause-ok
returns-clause-ok g c =
    let at = c.loop-o in
    let inv = at.invariant in
    let first = g.P.Sight.state c.args.parts.now in
    let left = into_iter_items at.o-iterator in
    let none = none_left left (sym inv.long ∙ c.in-None.ensures.steps.0) in
    objects-drawn first (g.P.Sight.state at.parts) (g.P.Sight.state c.draw_up_to.new.self) at.yielded c.args.next_object
    c.fresh_name-name.result inv.state c.fresh_name-name.ensures c.draw_up_to.ensures.state
    ∙ ap (λ (objects : List Object). record first {
      next_object = c.args.next_object;
      objects = first.objects ++ objects;
    }) (all-come at.yielded left c.args.objects.items none inv.rest)
