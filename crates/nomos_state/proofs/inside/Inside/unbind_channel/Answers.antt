use Rattle.std.proofs.Common.{◌≢◌, ◌≤◌, ℕ, None, cond, refl, sym, ap, ◌∙◌, subst, arith}
use Rattle.std.proofs.lemmas.Option.{MatchOption-at_some}
use Rattle.nomos_ir.specs.Bindings.{bound_to, unbind}
use Rattle.nomos_machine.specs.declared.object.Process.{Process}
use Rattle.nomos_machine.specs.Revised.{without_channel}
use Rattle.nomos_changes.specs.SmallChanges.{Becomes}
use Rattle.nomos_slots.specs.Cells.{name_in}
use Rattle.nomos_state.specs.Indexed.{Indexed, held_now, state_of}
use Rattle.nomos_state.specs.Looked.{ProcessIsAt}
use Rattle.nomos_state.specs.Objects.{channels_of}
use Rattle.nomos_state.proofs.ChannelLemmas.{bound-in_channels}
use Rattle.nomos_state.proofs.ChangingLemmas.{fewer-become, fewer-indexed}
use Rattle.nomos_state.proofs.ProcessLemmas.{not-none, told-there}
use Rattle.nomos_state.proofs.RebindLemmas.{channels-unbound, other-test}
use Rattle.nomos_state.proofs.SpanLemmas.{unbound-fewer}
use Rattle.nomos_state.proofs.TogetherLemmas.{same-names}
use Rattle.nomos_state.proofs.inside.Inside.unbind_channel.Goals as goal

pub invariant_of-self : goal.invariant_of-self
invariant_of-self c =
    let s = c.self.inside in
    let place = c.in-Some.field-0.0 in
    let k = c.in-Some.field-0.1 in
    let at : ProcessIsAt (held_now s.contents) c.args.pid place k =
    MatchOption-at_some _ _ (place, k) c.in-Some.is c.process_at.ensures in
    let others = λ (p w : ℕ) (other : p ≢ c.args.pid).
    c.unbind.ensures.names p w
    ∙ ap (λ t. cond t None (name_in s.contents.channels.now p w))
    (other-test c.args.pid p c.args.v.0 w (λ same. other (sym same))) in
    let has : s.room ≤ c.unbind.new.self.room = omega (
      arith,
      c.unbind.ensures.room,
      c.self.invariant.has_room.channels,
    ) in
    fewer-indexed s c.self.invariant c.args.pid place k at c.unbind.new.self (s.room) others
    (unbound-fewer s.contents.channels.now c.unbind.new.self.now c.args.pid c.args.v.0
    (c.unbind.ensures.names c.args.pid))
    (same-names _ _ c.unbind.ensures.marked)
    (omega arith) has

pub returns-clause-state : goal.returns-clause-state
returns-clause-state c =
    let s = c.self.inside in
    let place = c.in-Some.field-0.0 in
    let k = c.in-Some.field-0.1 in
    let at : ProcessIsAt (held_now s.contents) c.args.pid place k =
    MatchOption-at_some _ _ (place, k) c.in-Some.is c.process_at.ensures in
    let others = λ (p w : ℕ) (other : p ≢ c.args.pid).
    c.unbind.ensures.names p w
    ∙ ap (λ t. cond t None (name_in s.contents.channels.now p w))
    (other-test c.args.pid p c.args.v.0 w (λ same. other (sym same))) in
    let has : s.room ≤ c.unbind.new.self.room = omega (
      arith,
      c.unbind.ensures.room,
      c.self.invariant.has_room.channels,
    ) in
    let after = record s.contents { channels = c.unbind.new.self } in
    subst (λ (i : Indexed). Becomes i.state c.args.pid (without_channel c.args.v) (state_of (held_now after)))
    c.self.view_is
    (fewer-become s c.self.invariant c.args.pid place k at c.unbind.new.self (s.room) others
    (unbound-fewer s.contents.channels.now c.unbind.new.self.now c.args.pid c.args.v.0
    (c.unbind.ensures.names c.args.pid))
    (same-names _ _ c.unbind.ensures.marked)
    (omega arith) has
    (unbind c.args.v.0 (channels_of s.contents.channels.now c.args.pid))
    (without_channel c.args.v) (channels-unbound s.contents.channels.now c.unbind.new.self.now c.args.pid c.args.v
    (c.unbind.ensures.names c.args.pid)) refl)

pub returns-clause-none : goal.returns-clause-none
returns-clause-none c none =
    let h = held_now c.self.inside.contents in
    absurd (not-none _ h c.args.pid c.in-Some.field-0.0 c.in-Some.field-0.1
    (ap (λ (i : Indexed). i.state) c.self.view_is)
    (MatchOption-at_some _ _ (c.in-Some.field-0.0, c.in-Some.field-0.1) c.in-Some.is c.process_at.ensures) none)

pub returns-clause-before : goal.returns-clause-before
returns-clause-before c =
    let h = held_now c.self.inside.contents in
    told-there (λ (p : Process). bound_to c.args.v.0 p.channels) _ h c.args.pid c.in-Some.field-0.0 c.in-Some.field-0.1
    (ap (λ (i : Indexed). i.state) c.self.view_is)
    (MatchOption-at_some _ _ (c.in-Some.field-0.0, c.in-Some.field-0.1) c.in-Some.is c.process_at.ensures)
    c.get-bound.result
    (c.get-bound.ensures ∙ sym (bound-in_channels h.cells c.args.pid c.args.v.0))
