use Rattle.std.proofs.Common.{refl, ap, subst}
use Rattle.std.proofs.lemmas.Option.{MatchOption-at_some}
use Rattle.nomos_ir.specs.Bindings.{bind}
use Rattle.nomos_ir.proofs.BindingLaws.{bind-ascending}
use Rattle.nomos_machine.specs.Revised.{with_value}
use Rattle.nomos_changes.specs.SmallChanges.{Becomes}
use Rattle.nomos_state.specs.Indexed.{Indexed, held_now, state_of}
use Rattle.nomos_state.specs.Looked.{ProcessIsAt, values_at}
use Rattle.nomos_state.specs.Objects.{AscendsIf, ValueRow}
use Rattle.nomos_state.proofs.ChangingLemmas.{values-become, values-indexed}
use Rattle.nomos_state.proofs.ProcessLemmas.{ascends-kept, not-none}
use Rattle.nomos_state.proofs.inside.Inside.bind_value.Goals as goal

pub bind_in-requires-clause-order : goal.bind_in-requires-clause-order
bind_in-requires-clause-order c =
    let s = c.self.inside in
    let place = c.in-Some.place in
    let k = c.in-Some.before in
    let at : ProcessIsAt (held_now s.contents) c.args.pid place k =
    MatchOption-at_some _ _ (place, k) c.in-Some.is c.process_at.ensures in
    ascends-kept (held_now s.contents) c.self.invariant.now place c.args.pid k at.at

pub invariant_of-self-2 : goal.invariant_of-self-2
invariant_of-self-2 c =
    let s = c.self.inside in
    let place = c.in-Some.place in
    let k = c.in-Some.before in
    let at : ProcessIsAt (held_now s.contents) c.args.pid place k =
    MatchOption-at_some _ _ (place, k) c.in-Some.is c.process_at.ensures in
    let before : ValueRow = values_at (held_now s.contents) place in
    let row : ValueRow = bind c.args.v c.args.x before in
    let order : AscendsIf k.ascends row = λ known.
    bind-ascending c.args.v c.args.x before
    (ascends-kept (held_now s.contents) c.self.invariant.now place c.args.pid k at.at known) in
    values-indexed s c.self.invariant c.args.pid place k at c.bind_in.new.values row c.in_ok-bind_in.ensures.ok order
    c.bind_in.ensures.marked c.bind_in.ensures.room

pub returns-clause-ok : goal.returns-clause-ok
returns-clause-ok c =
    let s = c.self.inside in
    let place = c.in-Some.place in
    let k = c.in-Some.before in
    let at : ProcessIsAt (held_now s.contents) c.args.pid place k =
    MatchOption-at_some _ _ (place, k) c.in-Some.is c.process_at.ensures in
    let before : ValueRow = values_at (held_now s.contents) place in
    let row : ValueRow = bind c.args.v c.args.x before in
    let order : AscendsIf k.ascends row = λ known.
    bind-ascending c.args.v c.args.x before
    (ascends-kept (held_now s.contents) c.self.invariant.now place c.args.pid k at.at known) in
    let after = record s.contents { values = c.bind_in.new.values } in
    subst (λ (i : Indexed). Becomes i.state c.args.pid (with_value c.args.v c.args.x) (state_of (held_now after)))
    c.self.view_is
    (values-become s c.self.invariant c.args.pid place k at c.bind_in.new.values row c.in_ok-bind_in.ensures.ok order
    c.bind_in.ensures.marked c.bind_in.ensures.room (with_value c.args.v c.args.x) refl)

pub returns-clause-none : goal.returns-clause-none
returns-clause-none c none =
    let h = held_now c.self.inside.contents in
    absurd (not-none _ h c.args.pid c.in-Some.place c.in-Some.before (ap (λ (i : Indexed). i.state) c.self.view_is)
    (MatchOption-at_some _ _ (c.in-Some.place, c.in-Some.before) c.in-Some.is c.process_at.ensures) none)
