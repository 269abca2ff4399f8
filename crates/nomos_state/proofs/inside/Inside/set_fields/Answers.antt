use Rattle.std.proofs.Common.{◌≡◌, ◌∙◌, sym, ap, subst}
use Rattle.nomos_deeds.specs.SeenObjects.{seen_process}
use Rattle.nomos_changes.specs.SmallChanges.{Becomes, with_fields}
use Rattle.nomos_state.specs.Indexed.{Indexed, held_now, state_of}
use Rattle.nomos_state.specs.Looked.{ProcessIsAt, lists_at, values_at}
use Rattle.nomos_state.specs.Objects.{kept_of, process_held}
use Rattle.nomos_state.specs.declared.kept.KeptProcess.{KeptProcess}
use Rattle.nomos_state.proofs.ChangingLemmas.{fields-become, fields-indexed}
use Rattle.nomos_state.proofs.ProcessLemmas.{not-none, told-there}
use Rattle.nomos_state.proofs.inside.Inside.set_fields.Goals as goal

pub invariant_of-self : goal.invariant_of-self
invariant_of-self c =
    let s = c.self.inside in
    let place = c.in_ok-place.place in
    let k = c.in_ok-place.before in
    let at : ProcessIsAt (held_now s.contents) c.args.fields.pid place k = c.in_ok-place.ensures in
    let next = c.of-next.result in
    let again : next ≡ kept_of c.args.fields k.span k.ascends (record { gone = k.gone; potential = k.potential }) =
    c.of-next.ensures ∙ ap (kept_of c.args.fields k.span k.ascends) c.lists.ensures in
    fields-indexed s c.self.invariant c.args.fields.pid place k at c.put.new.self next c.put.ensures.now
    (ap (λ (n : KeptProcess). n.span) again) (ap (λ (n : KeptProcess). n.ascends) again)
    (ap (λ (n : KeptProcess). n.gone) again) (ap (λ (n : KeptProcess). n.potential) again) c.put.ensures.marked
    c.put.ensures.room

pub returns-clause-state : goal.returns-clause-state
returns-clause-state c =
    let s = c.self.inside in
    let place = c.in_ok-place.place in
    let k = c.in_ok-place.before in
    let at : ProcessIsAt (held_now s.contents) c.args.fields.pid place k = c.in_ok-place.ensures in
    let next = c.of-next.result in
    let again : next ≡ kept_of c.args.fields k.span k.ascends (record { gone = k.gone; potential = k.potential }) =
    c.of-next.ensures ∙ ap (kept_of c.args.fields k.span k.ascends) c.lists.ensures in
    let after = record s.contents { objects = c.put.new.self } in
    subst (λ (i : Indexed). Becomes i.state c.args.fields.pid (with_fields c.args.fields) (state_of (held_now after)))
    c.self.view_is
    (fields-become s c.self.invariant c.args.fields.pid place k at c.put.new.self next c.put.ensures.now
    (ap (λ (n : KeptProcess). n.span) again) (ap (λ (n : KeptProcess). n.ascends) again)
    (ap (λ (n : KeptProcess). n.gone) again) (ap (λ (n : KeptProcess). n.potential) again) c.put.ensures.marked
    c.put.ensures.room
    (with_fields c.args.fields)
    (ap (λ (n : KeptProcess). process_held s.contents.channels.now c.args.fields.pid
    (values_at (held_now s.contents) place)
    (lists_at (held_now s.contents) place) n) (sym again)))

pub returns-clause-none : goal.returns-clause-none
returns-clause-none c none =
    let h = held_now c.self.inside.contents in
    absurd (not-none _ h c.args.fields.pid c.in_ok-place.place c.in_ok-place.before
    (ap (λ (i : Indexed). i.state) c.self.view_is)
    c.in_ok-place.ensures none)

pub returns-clause-before : goal.returns-clause-before
returns-clause-before c =
    let h = held_now c.self.inside.contents in
    let place = c.in_ok-place.place in
    told-there seen_process _ h c.args.fields.pid place c.in_ok-place.before
    (ap (λ (i : Indexed). i.state) c.self.view_is)
    c.in_ok-place.ensures c.seen_process.result (c.seen_process.ensures h.cells (values_at h place) (lists_at h place))
