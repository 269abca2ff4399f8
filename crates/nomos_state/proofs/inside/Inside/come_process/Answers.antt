use Rattle.std.proofs.Common.{◌≡◌, ◌≤◌, ◌∙◌, ℕ, List, IsSome, length, sym, ap, subst, arith}
use Rattle.nomos_ir.specs.Bindings.{bindings_of, bound_to}
use Rattle.nomos_ir.specs.declared.ids.VarId.{VarId}
use Rattle.nomos_machine.specs.declared.object.Object.TheVariants as object
use Rattle.nomos_changes.specs.SmallChanges.{process_born, with_object}
use Rattle.nomos_slots.specs.Cells.{name_in}
use Rattle.nomos_state.specs.ObjectsCome.{name_with}
use Rattle.nomos_state.specs.Indexed.{Indexed}
use Rattle.nomos_state.specs.Objects.{AscendsIf, IsPotentialIf, ListRow, ValueRow}
use Rattle.nomos_state.proofs.AgainLemmas.{moved-marks, moved-state, on_any_err}
use Rattle.nomos_state.proofs.BirthLemmas.{born-indexed, born-marks, born-state}
use Rattle.nomos_state.proofs.RowLemmas.{map-ascends}
use Rattle.nomos_state.proofs.inside.Inside.come_process.Goals as goal

pub returns-in_err-reserve_names-clause-err : goal.returns-in_err-reserve_names-clause-err
returns-in_err-reserve_names-clause-err c =
    on_any_err c.from_residual.result
    (moved-state c.self.inside c.reserve_names.new.channels c.reserve_names.ensures.names c.reserve_names.ensures.marked
    ∙ ap (λ (i : Indexed). i.state) c.self.view_is)

pub returns-in_err-reserve_names-clause-marked : goal.returns-in_err-reserve_names-clause-marked
returns-in_err-reserve_names-clause-marked c =
    moved-marks c.self.inside c.reserve_names.new.channels c.reserve_names.ensures.names c.reserve_names.ensures.marked
    ∙ ap (λ (i : Indexed). i.marked) c.self.view_is

pub invariant_of-self-2 : goal.invariant_of-self-2
invariant_of-self-2 c =
    let s = c.self.inside in
    let born = c.args.born in
    let come = λ (p w : ℕ).
    c.bind_pairs.ensures.names p w
    ∙ ap (λ (ps : List (VarId × ℕ)). name_with born.fields.pid ps p w (name_in c.reserve_names.new.channels.now p w))
    c.deref.ensures.value in
    let next = c.requires.number ∙ sym (ap (λ (i : Indexed). i.state.next_object) c.self.view_is) in
    let has : s.room ≤ c.bind_pairs.new.channels.room =
    omega (
      arith,
      c.in_ok-reserve_names.ensures.ok,
      c.bind_pairs.ensures.room,
      c.len-count.ensures,
      ap length c.deref.ensures.value,
    ) in
    let spans = λ (w : ℕ) (some : IsSome (bound_to w born.channels.items)).
    c.span_of.ensures w
    (subst (λ (ps : List (VarId × ℕ)). IsSome (bound_to w ps)) (sym c.deref-4.ensures.value) some) in
    let order : AscendsIf c.is_map-ascends.result born.values.items = λ known. map-ascends born.values.items
    (subst (λ (ps : ValueRow). bindings_of ps ≡ ps) c.deref-2.ensures.value (c.is_map-ascends.ensures known)) in
    let kept = c.kept_lists-lists.result in
    let known : IsPotentialIf kept.potential born.lists.items =
    subst (λ (row : ListRow). IsPotentialIf kept.potential row) c.deref-3.ensures.value
    c.kept_lists-lists.ensures.potential in
    born-indexed s c.self.invariant born c.of-kept.result c.span_of.result c.is_map-ascends.result
    kept c.push.new.self
    c.push-2.new.self
    c.push-3.new.self
    c.reserve_names.new.channels c.bind_pairs.new.channels c.reserve_names.ensures.names come
    c.reserve_names.ensures.marked
    c.bind_pairs.ensures.marked c.push.ensures.marked c.push-2.ensures.marked c.push-3.ensures.marked next
    c.of-kept.ensures
    c.push.ensures.now c.push-2.ensures.now c.push-3.ensures.now spans order c.kept_lists-lists.ensures.gone known
    (record {
      objects = omega (arith, c.push.ensures.room, c.self.invariant.has_room.objects);
      values = omega (arith, c.push-2.ensures.room, c.self.invariant.has_room.values);
      its_lists = omega (arith, c.push-3.ensures.room, c.self.invariant.has_room.its_lists);
      channels = omega (arith, has);
      names = omega (arith, c.self.invariant.has_room.names);
    })

pub returns-clause-ok : goal.returns-clause-ok
returns-clause-ok c =
    let s = c.self.inside in
    let born = c.args.born in
    let come = λ (p w : ℕ).
    c.bind_pairs.ensures.names p w
    ∙ ap (λ (ps : List (VarId × ℕ)). name_with born.fields.pid ps p w (name_in c.reserve_names.new.channels.now p w))
    c.deref.ensures.value in
    let next = c.requires.number ∙ sym (ap (λ (i : Indexed). i.state.next_object) c.self.view_is) in
    let spans = λ (w : ℕ) (some : IsSome (bound_to w born.channels.items)).
    c.span_of.ensures w
    (subst (λ (ps : List (VarId × ℕ)). IsSome (bound_to w ps)) (sym c.deref-4.ensures.value) some) in
    let order : AscendsIf c.is_map-ascends.result born.values.items = λ known. map-ascends born.values.items
    (subst (λ (ps : ValueRow). bindings_of ps ≡ ps) c.deref-2.ensures.value (c.is_map-ascends.ensures known)) in
    let kept = c.kept_lists-lists.result in
    let known : IsPotentialIf kept.potential born.lists.items =
    subst (λ (row : ListRow). IsPotentialIf kept.potential row) c.deref-3.ensures.value
    c.kept_lists-lists.ensures.potential in
    born-state s c.self.invariant born c.of-kept.result c.span_of.result c.is_map-ascends.result
    kept c.push.new.self
    c.push-2.new.self
    c.push-3.new.self
    c.reserve_names.new.channels c.bind_pairs.new.channels c.reserve_names.ensures.names come
    c.reserve_names.ensures.marked
    c.bind_pairs.ensures.marked c.push.ensures.marked c.push-2.ensures.marked c.push-3.ensures.marked next
    c.of-kept.ensures
    c.push.ensures.now c.push-2.ensures.now c.push-3.ensures.now spans order c.kept_lists-lists.ensures.gone known
    ∙ ap (λ (i : Indexed). with_object (object.Process (process_born born)) i.state) c.self.view_is

pub returns-clause-marked : goal.returns-clause-marked
returns-clause-marked c =
    let s = c.self.inside in
    let born = c.args.born in
    let come = λ (p w : ℕ).
    c.bind_pairs.ensures.names p w
    ∙ ap (λ (ps : List (VarId × ℕ)). name_with born.fields.pid ps p w (name_in c.reserve_names.new.channels.now p w))
    c.deref.ensures.value in
    let next = c.requires.number ∙ sym (ap (λ (i : Indexed). i.state.next_object) c.self.view_is) in
    let spans = λ (w : ℕ) (some : IsSome (bound_to w born.channels.items)).
    c.span_of.ensures w
    (subst (λ (ps : List (VarId × ℕ)). IsSome (bound_to w ps)) (sym c.deref-4.ensures.value) some) in
    let order : AscendsIf c.is_map-ascends.result born.values.items = λ known. map-ascends born.values.items
    (subst (λ (ps : ValueRow). bindings_of ps ≡ ps) c.deref-2.ensures.value (c.is_map-ascends.ensures known)) in
    let kept = c.kept_lists-lists.result in
    let known : IsPotentialIf kept.potential born.lists.items =
    subst (λ (row : ListRow). IsPotentialIf kept.potential row) c.deref-3.ensures.value
    c.kept_lists-lists.ensures.potential in
    born-marks s c.self.invariant born c.of-kept.result c.span_of.result c.is_map-ascends.result
    kept c.push.new.self
    c.push-2.new.self
    c.push-3.new.self
    c.reserve_names.new.channels c.bind_pairs.new.channels c.reserve_names.ensures.names come
    c.reserve_names.ensures.marked
    c.bind_pairs.ensures.marked c.push.ensures.marked c.push-2.ensures.marked c.push-3.ensures.marked next
    c.of-kept.ensures
    c.push.ensures.now c.push-2.ensures.now c.push-3.ensures.now spans order c.kept_lists-lists.ensures.gone known
    ∙ ap (λ (i : Indexed). i.marked) c.self.view_is
