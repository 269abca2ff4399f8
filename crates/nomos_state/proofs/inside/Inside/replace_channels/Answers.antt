use Rattle.std.proofs.Common.{◌≡◌, ◌≤◌, ◌∙◌, ℕ, List, IsSome, Option, Some, length, ap, sym, refl, subst, arith}
use Rattle.std.proofs.lemmas.Option.{MatchOption-at_some, same_Some}
use Rattle.nomos_ir.specs.Bindings.{bound_to}
use Rattle.nomos_ir.proofs.BindingLaws.{bound-in_bindings_of}
use Rattle.nomos_machine.specs.State.{State, process_at}
use Rattle.nomos_machine.specs.declared.object.Process.{Process}
use Rattle.nomos_ir.specs.declared.ids.VarId.{VarId}
use Rattle.nomos_changes.specs.SmallChanges.{Becomes, with_channels}
use Rattle.nomos_slots.specs.Cells.{name_in}
use Rattle.nomos_state.specs.ObjectsCome.{name_with}
use Rattle.nomos_state.specs.Indexed.{Indexed, held_now, state_of}
use Rattle.nomos_state.specs.Looked.{ProcessIsAt, lists_at, values_at}
use Rattle.nomos_state.specs.Objects.{process_held}
use Rattle.nomos_state.specs.declared.kept.Kept.TheVariants as kept
use Rattle.nomos_state.proofs.AgainLemmas.{moved-marks, moved-state, on_any_err}
use Rattle.nomos_state.proofs.KeepLemmas.{process-put}
use Rattle.nomos_state.proofs.ProcessLemmas.{not-none, spans-kept}
use Rattle.nomos_state.proofs.ReplacingLemmas.{replaced-become, replaced-indexed, replaced-marks}
use Rattle.nomos_state.proofs.inside.Inside.replace_channels.Goals as goal

pub returns-in_err-reserve_names-clause-err : goal.returns-in_err-reserve_names-clause-err
returns-in_err-reserve_names-clause-err c =
    on_any_err c.from_residual.result
    (moved-state c.self.inside c.reserve_names.new.channels c.reserve_names.ensures.names c.reserve_names.ensures.marked
    ∙ ap (λ (i : Indexed). i.state) c.self.view_is)

pub returns-in_err-reserve_names-clause-marked : goal.returns-in_err-reserve_names-clause-marked
returns-in_err-reserve_names-clause-marked c =
    moved-marks c.self.inside c.reserve_names.new.channels c.reserve_names.ensures.names c.reserve_names.ensures.marked
    ∙ ap (λ (i : Indexed). i.marked) c.self.view_is

pub drop_span-requires : goal.drop_span-requires
drop_span-requires c v some =
    let h = held_now c.self.inside.contents in
    let place = c.in-Some.place in
    let k = c.in-Some.before in
    let at : ProcessIsAt h c.args.pid place k = MatchOption-at_some _ _ (place, k) c.in-Some.is c.process_at.ensures in
    spans-kept h c.self.invariant.now place c.args.pid (kept.Process k) at.at v
    (subst (λ (o : Option ℕ). IsSome o) (c.reserve_names.ensures.names c.args.pid v) some)

pub invariant_of-self-2 : goal.invariant_of-self-2
invariant_of-self-2 c =
    let s = c.self.inside in
    let place = c.in-Some.place in
    let k = c.in-Some.before in
    let at : ProcessIsAt (held_now s.contents) c.args.pid place k =
    MatchOption-at_some _ _ (place, k) c.in-Some.is c.process_at.ensures in
    let has : s.room ≤ c.bind_pairs.new.channels.room =
    omega (
      arith,
      c.in_ok-reserve_names.ensures.ok,
      c.drop_span.ensures.room,
      c.bind_pairs.ensures.room,
      c.len-count.ensures,
      ap length c.deref.ensures.value,
    ) in
    let come = λ (p w : ℕ).
    c.bind_pairs.ensures.names p w
    ∙ ap (λ (ps : List (VarId × ℕ)). name_with c.args.pid ps p w (name_in c.drop_span.new.channels.now p w))
    c.deref.ensures.value in
    let spans = λ (w : ℕ) (some : IsSome (bound_to w c.args.channels.items)).
    c.span_of-span.ensures w
    (subst (λ (ps : List (VarId × ℕ)). IsSome (bound_to w ps)) (sym c.deref-2.ensures.value) some) in
    replaced-indexed s c.args.pid c.args.channels.items c.reserve_names.new.channels c.drop_span.new.channels
    c.bind_pairs.new.channels c.reserve_names.ensures.names c.drop_span.ensures.names come
    c.reserve_names.ensures.marked c.drop_span.ensures.marked c.bind_pairs.ensures.marked c.keep_span.new.objects
    c.keep_span.ensures.marked c.self.invariant place k at has c.span_of-span.result c.keep_span.ensures.now
    c.keep_span.ensures.room spans

pub returns-clause-ok : goal.returns-clause-ok
returns-clause-ok c =
    let s = c.self.inside in
    let place = c.in-Some.place in
    let k = c.in-Some.before in
    let at : ProcessIsAt (held_now s.contents) c.args.pid place k =
    MatchOption-at_some _ _ (place, k) c.in-Some.is c.process_at.ensures in
    let has : s.room ≤ c.bind_pairs.new.channels.room =
    omega (
      arith,
      c.in_ok-reserve_names.ensures.ok,
      c.drop_span.ensures.room,
      c.bind_pairs.ensures.room,
      c.len-count.ensures,
      ap length c.deref.ensures.value,
    ) in
    let come = λ (p w : ℕ).
    c.bind_pairs.ensures.names p w
    ∙ ap (λ (ps : List (VarId × ℕ)). name_with c.args.pid ps p w (name_in c.drop_span.new.channels.now p w))
    c.deref.ensures.value in
    let spans = λ (w : ℕ) (some : IsSome (bound_to w c.args.channels.items)).
    c.span_of-span.ensures w
    (subst (λ (ps : List (VarId × ℕ)). IsSome (bound_to w ps)) (sym c.deref-2.ensures.value) some) in
    let after = record s.contents { objects = c.keep_span.new.objects; channels = c.bind_pairs.new.channels } in
    subst (λ (i : Indexed). Becomes i.state c.args.pid (with_channels c.args.channels.items)
    (state_of (held_now after))) c.self.view_is
    (replaced-become s c.args.pid c.args.channels.items c.reserve_names.new.channels c.drop_span.new.channels
    c.bind_pairs.new.channels c.reserve_names.ensures.names c.drop_span.ensures.names come
    c.reserve_names.ensures.marked c.drop_span.ensures.marked c.bind_pairs.ensures.marked c.keep_span.new.objects
    c.keep_span.ensures.marked c.self.invariant place k at has c.span_of-span.result c.keep_span.ensures.now
    c.keep_span.ensures.room spans)

pub returns-clause-marked : goal.returns-clause-marked
returns-clause-marked c =
    let come = λ (p w : ℕ).
    c.bind_pairs.ensures.names p w
    ∙ ap (λ (ps : List (VarId × ℕ)). name_with c.args.pid ps p w (name_in c.drop_span.new.channels.now p w))
    c.deref.ensures.value in
    replaced-marks c.self.inside c.args.pid c.args.channels.items c.reserve_names.new.channels c.drop_span.new.channels
    c.bind_pairs.new.channels c.reserve_names.ensures.names c.drop_span.ensures.names come
    c.reserve_names.ensures.marked c.drop_span.ensures.marked c.bind_pairs.ensures.marked c.keep_span.new.objects
    c.keep_span.ensures.marked
    ∙ ap (λ (i : Indexed). i.marked) c.self.view_is

pub keep_span-requires : goal.keep_span-requires
keep_span-requires c =
    let at : ProcessIsAt (held_now c.self.inside.contents) c.args.pid c.in-Some.place c.in-Some.before =
    MatchOption-at_some _ _ (c.in-Some.place, c.in-Some.before) c.in-Some.is c.process_at.ensures in
    at.at

pub returns-clause-spans : goal.returns-clause-spans
returns-clause-spans c p there v some =
    let s = c.self.inside in
    let h = held_now s.contents in
    let place = c.in-Some.place in
    let k = c.in-Some.before in
    let at : ProcessIsAt h c.args.pid place k = MatchOption-at_some _ _ (place, k) c.in-Some.is c.process_at.ensures in
    let has : s.room ≤ c.bind_pairs.new.channels.room =
    omega (
      arith,
      c.in_ok-reserve_names.ensures.ok,
      c.drop_span.ensures.room,
      c.bind_pairs.ensures.room,
      c.len-count.ensures,
      ap length c.deref.ensures.value,
    ) in
    let come = λ (p w : ℕ).
    c.bind_pairs.ensures.names p w
    ∙ ap (λ (ps : List (VarId × ℕ)). name_with c.args.pid ps p w (name_in c.drop_span.new.channels.now p w))
    c.deref.ensures.value in
    let spans = λ (w : ℕ) (some : IsSome (bound_to w c.args.channels.items)).
    c.span_of-span.ensures w
    (subst (λ (ps : List (VarId × ℕ)). IsSome (bound_to w ps)) (sym c.deref-2.ensures.value) some) in
    let become = replaced-become s c.args.pid c.args.channels.items c.reserve_names.new.channels
    c.drop_span.new.channels
    c.bind_pairs.new.channels c.reserve_names.ensures.names c.drop_span.ensures.names come
    c.reserve_names.ensures.marked c.drop_span.ensures.marked c.bind_pairs.ensures.marked c.keep_span.new.objects
    c.keep_span.ensures.marked c.self.invariant place k at has c.span_of-span.result c.keep_span.ensures.now
    c.keep_span.ensures.room spans in
    let held = process_held h.cells c.args.pid (values_at h place) (lists_at h place) k in
    let q = with_channels c.args.channels.items held in
    let here : process_at (state_of (held_now (record s.contents {
      objects = c.keep_span.new.objects;
      channels = c.bind_pairs.new.channels;
    }))) c.args.pid
    ≡ Some q =
    ap (λ (t : State). process_at t c.args.pid) (become held at.found)
    ∙ process-put (state_of h) c.args.pid held q at.found refl in
    let same : p ≡ q = same_Some p q (sym there ∙ here) in
    spans v
    (subst (λ (o : Option ℕ). IsSome o)
    (ap (λ (r : Process). bound_to v r.channels) same ∙ bound-in_bindings_of v c.args.channels.items) some)
