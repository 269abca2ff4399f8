use Rattle.std.proofs.Common.{◌∙◌, List, refl, sym, ap, subst}
use Rattle.nomos_ir.specs.declared.ids.TypeId.{TypeId}
use Rattle.nomos_machine.specs.State.{NameTypes, State}
use Rattle.nomos_slots.specs.declared.numbered.Slot.{Slot}
use Rattle.nomos_state.specs.Indexed.{IsHolding, held_now, state_of}
use Rattle.nomos_state.specs.Objects.{types_of}
use Rattle.nomos_state.proofs.CloseLemmas.{holding-names_closed, types-closed}
use Rattle.nomos_state.proofs.TogetherLemmas.{same-names}
use Rattle.nomos_state.proofs.closing.close_names.Goals as goal

pub returns-clause-holding : goal.returns-clause-holding
returns-clause-holding c =
    let h = held_now c.args.contents.now in
    subst (λ (names : List (Slot TypeId)). IsHolding (record h { names = names })) (sym c.close_gaps.ensures.now)
    (holding-names_closed h c.late_from-from.result c.requires.holding)

pub returns-clause-state : goal.returns-clause-state
returns-clause-state c =
    let h = held_now c.args.contents.now in
    let With : NameTypes → State = λ types. record (state_of h) { types = types } in
    ap With (ap types_of c.close_gaps.ensures.now ∙ types-closed c.late_from-from.result h.names)

pub returns-clause-marked : goal.returns-clause-marked
returns-clause-marked c = record {
  objects = refl;
  values = refl;
  its_lists = refl;
  channels = same-names c.args.contents.now.channels.marked c.args.contents.now.channels.marked refl;
  names = c.close_gaps.ensures.marked;
  balances = refl;
  outside = refl;
  results = refl;
}
