use Rattle.std.proofs.Common.{◌+◌, ◌∙◌, List, refl, sym, ap, subst, arith}
use Rattle.nomos_ir.specs.declared.ids.TypeId.{TypeId}
use Rattle.nomos_machine.specs.State.{NameTypes, State}
use Rattle.nomos_changes.specs.SmallChanges.{with_name}
use Rattle.nomos_slots.specs.declared.numbered.Slot.{Slot}
use Rattle.nomos_state.specs.Indexed.{Holding, Indexed, IsHolding, held_now, state_of}
use Rattle.nomos_state.specs.Objects.{types_of}
use Rattle.nomos_state.specs.Together.{MarksTheSame}
use Rattle.nomos_state.specs.declared.inside.Columns.{Columns}
use Rattle.nomos_state.proofs.TidyLemmas.{holding-come, types-push}
use Rattle.nomos_state.proofs.TogetherLemmas.{marked-holding, same-names, together-same}
use Rattle.nomos_state.proofs.inside.Inside.come_name.Goals as goal

pub invariant_of-self : goal.invariant_of-self
invariant_of-self c =
    let old = c.self.inside.contents in
    let h = held_now old in
    let is = c.self.invariant in
    let new : Columns = record old {
      names = c.push.new.self;
      numbers = record old.numbers { next_name = old.numbers.next_name + 1 };
    } in
    let With : List (Slot TypeId) → Holding = λ names. record h {
      names = names;
      drawn = record h.drawn { next_name = h.drawn.next_name + 1 };
    } in
    let marks : MarksTheSame old new = record {
      objects = refl;
      values = refl;
      its_lists = refl;
      channels = same-names old.channels.marked old.channels.marked refl;
      names = c.push.ensures.marked;
      balances = refl;
      outside = refl;
      results = refl;
    } in
    record {
      now =
          subst (λ (names : List (Slot TypeId)). IsHolding (With names)) (sym c.push.ensures.now)
          (holding-come h c.args.t is.now);
      together = together-same old new c.self.inside.marked marks is.together;
      marked = marked-holding old new c.self.inside.marked marks is.marked;
      has_room = record {
        objects = omega (arith, is.has_room.objects);
        values = omega (arith, is.has_room.values);
        its_lists = omega (arith, is.has_room.its_lists);
        channels = omega (arith, is.has_room.channels);
        names = omega (arith, is.has_room.names, c.push.ensures.room);
      };
      has_seats = record { balances = is.has_seats.balances; outside = is.has_seats.outside };
    }

pub returns-clause-state : goal.returns-clause-state
returns-clause-state c =
    let h = held_now c.self.inside.contents in
    let s = state_of h in
    let With : NameTypes → State = λ types. record s { types = types; next_name = s.next_name + 1 } in
    ap With (ap types_of c.push.ensures.now ∙ types-push h.names h.drawn.next_name c.args.t)
    ∙ ap (λ (x : Indexed). with_name c.args.t x.state) c.self.view_is
