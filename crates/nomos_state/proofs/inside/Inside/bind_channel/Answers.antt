use Rattle.std.proofs.Common.{◌≢◌, ◌≤◌, ◌-◌, ℕ, Some, cond, refl, sym, ap, ◌∙◌, subst, arith}
use Rattle.nomos_ir.specs.Bindings.{IsAscending, bind, bound_to}
use Rattle.nomos_ir.proofs.BindingLaws.{bindings_of-ascending}
use Rattle.nomos_machine.specs.State.{process_at}
use Rattle.nomos_machine.specs.declared.object.Process.{Process}
use Rattle.nomos_machine.specs.Revised.{with_channel}
use Rattle.nomos_changes.specs.SmallChanges.{Becomes}
use Rattle.nomos_slots.specs.Cells.{name_in}
use Rattle.nomos_state.specs.Indexed.{Indexed, held_now, state_of}
use Rattle.nomos_state.specs.Looked.{ProcessIsAt}
use Rattle.nomos_state.specs.Objects.{channels_of, entries_of}
use Rattle.nomos_state.proofs.ChannelLemmas.{bound-in_channels}
use Rattle.nomos_state.proofs.ChangingLemmas.{channels-become, channels-indexed}
use Rattle.nomos_state.specs.declared.kept.Kept.TheVariants as kept
use Rattle.nomos_state.proofs.ProcessLemmas.{not-none, spans-kept, told-there}
use Rattle.nomos_state.proofs.LookLemmas.{process-stands}
use Rattle.nomos_state.proofs.RebindLemmas.{channels-bound, other-test}
use Rattle.nomos_state.proofs.SpanLemmas.{bound-spans}
use Rattle.nomos_state.proofs.TogetherLemmas.{same-names}
use Rattle.nomos_state.proofs.inside.Inside.bind_channel.Goals as goal

pub invariant_of-self : goal.invariant_of-self
invariant_of-self c =
    let s = c.self.inside in
    let place = c.in_ok-place.place in
    let k = c.in_ok-place.before in
    let at : ProcessIsAt (held_now s.contents) c.args.pid place k = c.in_ok-place.ensures in
    let others = λ (p w : ℕ) (other : p ≢ c.args.pid).
    c.bind.ensures.names p w
    ∙ ap (λ t. cond t (Some c.args.name) (name_in s.contents.channels.now p w))
    (other-test c.args.pid p c.args.v.0 w (λ same. other (sym same))) in
    let has : s.room - 1 ≤ c.bind.new.self.room = omega (
      arith,
      c.bind.ensures.room,
      c.self.invariant.has_room.channels,
    ) in
    let spans = bound-spans s.contents.channels.now c.bind.new.self.now c.args.pid c.args.v.0 c.args.name k.span
    c.widened.result (c.bind.ensures.names c.args.pid)
    (spans-kept (held_now s.contents) c.self.invariant.now place c.args.pid (kept.Process k) at.at)
    c.widened.ensures.more c.widened.ensures.own in
    channels-indexed s c.self.invariant c.args.pid place k at c.put.new.self (Some c.widened.result) c.bind.new.self
    (s.room - 1) c.put.ensures.now c.put.ensures.marked c.put.ensures.room others spans
    (same-names _ _ c.bind.ensures.marked)
    (omega arith) has

pub returns-clause-state : goal.returns-clause-state
returns-clause-state c =
    let s = c.self.inside in
    let place = c.in_ok-place.place in
    let k = c.in_ok-place.before in
    let at : ProcessIsAt (held_now s.contents) c.args.pid place k = c.in_ok-place.ensures in
    let others = λ (p w : ℕ) (other : p ≢ c.args.pid).
    c.bind.ensures.names p w
    ∙ ap (λ t. cond t (Some c.args.name) (name_in s.contents.channels.now p w))
    (other-test c.args.pid p c.args.v.0 w (λ same. other (sym same))) in
    let has : s.room - 1 ≤ c.bind.new.self.room = omega (
      arith,
      c.bind.ensures.room,
      c.self.invariant.has_room.channels,
    ) in
    let after = record s.contents { objects = c.put.new.self; channels = c.bind.new.self } in
    let spans = bound-spans s.contents.channels.now c.bind.new.self.now c.args.pid c.args.v.0 c.args.name k.span
    c.widened.result (c.bind.ensures.names c.args.pid)
    (spans-kept (held_now s.contents) c.self.invariant.now place c.args.pid (kept.Process k) at.at)
    c.widened.ensures.more c.widened.ensures.own in
    subst (λ (i : Indexed). Becomes i.state c.args.pid (with_channel c.args.v c.args.name) (state_of (held_now after)))
    c.self.view_is
    (channels-become s c.self.invariant c.args.pid place k at c.put.new.self (Some c.widened.result) c.bind.new.self
    (s.room - 1) c.put.ensures.now c.put.ensures.marked c.put.ensures.room others spans
    (same-names _ _ c.bind.ensures.marked)
    (omega arith) has
    (bind c.args.v c.args.name (channels_of s.contents.channels.now c.args.pid))
    (with_channel c.args.v c.args.name) (channels-bound s.contents.channels.now c.bind.new.self.now c.args.pid c.args.v
    c.args.name (c.bind.ensures.names c.args.pid)) refl)

pub returns-clause-none : goal.returns-clause-none
returns-clause-none c none =
    let h = held_now c.self.inside.contents in
    absurd (not-none _ h c.args.pid c.in_ok-place.place c.in_ok-place.before
    (ap (λ (i : Indexed). i.state) c.self.view_is)
    c.in_ok-place.ensures none)

pub returns-clause-before : goal.returns-clause-before
returns-clause-before c =
    let h = held_now c.self.inside.contents in
    told-there (λ (p : Process). bound_to c.args.v.0 p.channels) _ h c.args.pid c.in_ok-place.place c.in_ok-place.before
    (ap (λ (i : Indexed). i.state) c.self.view_is)
    c.in_ok-place.ensures c.get-bound.result
    (c.get-bound.ensures ∙ sym (bound-in_channels h.cells c.args.pid c.args.v.0))

pub returns-clause-order : goal.returns-clause-order
returns-clause-order c p there =
    let h = held_now c.self.inside.contents in
    let at = ap (λ (s : Indexed). process_at s.state c.args.pid) c.self.view_is ∙ there in
    let stands = process-stands h c.self.invariant.now c.args.pid p at in
    subst (λ (q : Process). IsAscending q.channels) (sym stands.is)
    (bindings_of-ascending (entries_of h.cells c.args.pid))
