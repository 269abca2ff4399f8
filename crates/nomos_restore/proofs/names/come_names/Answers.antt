use Rattle.std.proofs.Common.{◌≡◌, ◌∙◌, ◌+◌, ◌++◌, ◌∷◌, ◌<◌, ℕ, List, [], length, sym, ap, subst, append_assoc, arith}
use Rattle.std.specs.Vec.Iter.{into_iter_items}
use Rattle.nomos_ir.specs.declared.ids.TypeId.{TypeId}
use Rattle.nomos_machine.specs.State.{State}
use Rattle.nomos_restore.specs.Numbering.{AreNext}
use Rattle.nomos_restore.proofs.BuiltLemmas.{all-come, names-drawn, names-more, none_left}
use Rattle.nomos_restore.proofs.NumberingLemmas.{first-above, first-below, rest-next}
use Rattle.nomos_restore.proofs.names.come_names.Goals as goal

abbrev name_of : ℕ × TypeId → ℕ
name_of t = t.0

pub come_name_at-requires : goal.come_name_at-requires
come_name_at-requires g c =
    let inv = c.loop-name.invariant in
    let now = g.P.Sight.state c.loop-name.parts in
    let t : ℕ × TypeId = (c.in-Some.name, c.in-Some.t) in
    let after = into_iter_items c.next.new.self in
    let step : into_iter_items c.loop-name.name-iterator ≡ t ∷ after = c.in-Some.ensures.steps.0 in
    let are = subst (AreNext name_of now.next_name c.args.next_name) step inv.next in
    let below : t.0 < c.args.next_name = first-below name_of now.next_name c.args.next_name t after are in
    record {
      room = omega (arith, inv.room, c.requires.room, ap length step);
      above = first-above name_of now.next_name c.args.next_name t after are;
      fits = omega (arith, below, c.ranges.next_name.fits);
    }

pub loop-name-preserved : goal.loop-name-preserved
loop-name-preserved g c =
    let at = c.loop-name in
    let inv = at.invariant in
    let first = g.P.Sight.state c.args.parts.now in
    let now = g.P.Sight.state at.parts in
    let new = g.P.Sight.state c.come_name_at.new.parts in
    let t : ℕ × TypeId = (c.in-Some.name, c.in-Some.t) in
    let after = into_iter_items c.next.new.self in
    let step : into_iter_items at.name-iterator ≡ t ∷ after = c.in-Some.ensures.steps.0 in
    let are = subst (AreNext name_of now.next_name c.args.next_name) step inv.next in
    let below : t.0 < c.args.next_name = first-below name_of now.next_name c.args.next_name t after are in
    let drawn : t.0 + 1 ≡ new.next_name = sym (ap (λ (s : State). s.next_name) c.come_name_at.ensures.state) in
    record {
      state = names-more first now new at.yielded t inv.state c.come_name_at.ensures.state;
      next =
          subst (λ (n : ℕ). AreNext name_of n c.args.next_name after) drawn
          (rest-next name_of now.next_name c.args.next_name t after are);
      within = omega (arith, drawn, below);
      rest = append_assoc at.yielded (t ∷ []) after ∙ (ap (λ l. at.yielded ++ l) (sym step) ∙ inv.rest);
      long = omega (arith, c.in-Some.ensures.steps.1, inv.long, ap length step);
      room = omega (arith, inv.room, ap length step, c.come_name_at.ensures.room);
      marked = c.come_name_at.ensures.marked ∙ inv.marked;
    }

pub returns-clause-state : goal.returns-clause-state
returns-clause-state g c =
    let at = c.loop-name in
    let inv = at.invariant in
    let first = g.P.Sight.state c.args.parts.now in
    let left = into_iter_items at.name-iterator in
    let none = none_left left (sym inv.long ∙ c.in-None.ensures.steps.0) in
    names-drawn first (g.P.Sight.state at.parts) (g.P.Sight.state c.draw_up_to.new.self) at.yielded
    c.next_number-number.result c.args.next_name inv.state c.next_number-number.ensures c.draw_up_to.ensures.state
    ∙ ap (λ (types : List (ℕ × TypeId)). record first { next_name = c.args.next_name; types = first.types ++ types })
    (all-come at.yielded left c.args.types.items none inv.rest)

pub returns-clause-room : goal.returns-clause-room
returns-clause-room g c =
    let inv = c.loop-name.invariant in
    omega (arith, inv.room, c.draw_up_to.ensures.room)
