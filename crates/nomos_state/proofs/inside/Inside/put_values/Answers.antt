use Rattle.std.proofs.Common.{◌≡◌, ◌≤◌, ◌-◌, refl, ap, subst, arith}
use Rattle.std.proofs.lemmas.Option.{MatchOption-at_some}
use Rattle.nomos_ir.specs.Bindings.{bindings_of}
use Rattle.nomos_changes.specs.SmallChanges.{Becomes, with_values}
use Rattle.nomos_state.specs.Indexed.{Indexed, held_now, state_of}
use Rattle.nomos_state.specs.Looked.{ProcessIsAt, lists_at}
use Rattle.nomos_state.specs.Objects.{AscendsIf, ValueRow}
use Rattle.nomos_state.proofs.ChangingLemmas.{own_rows, rows-become, rows-indexed, same_lists}
use Rattle.nomos_state.proofs.RowLemmas.{map-ascends}
use Rattle.nomos_state.proofs.ProcessLemmas.{not-none}
use Rattle.nomos_state.proofs.inside.Inside.put_values.Goals as goal

pub keep_order-requires : goal.keep_order-requires
keep_order-requires c =
    let s = c.self.inside in
    let place = c.in-Some.place in
    let k = c.in-Some.before in
    let at : ProcessIsAt (held_now s.contents) c.args.pid place k =
    MatchOption-at_some _ _ (place, k) c.in-Some.is c.process_at.ensures in
    at.at

pub invariant_of-self : goal.invariant_of-self
invariant_of-self c =
    let s = c.self.inside in
    let place = c.in-Some.place in
    let k = c.in-Some.before in
    let at : ProcessIsAt (held_now s.contents) c.args.pid place k =
    MatchOption-at_some _ _ (place, k) c.in-Some.is c.process_at.ensures in
    let ascends = c.is_map-ascends.result in
    let order : AscendsIf ascends c.args.values.items = λ known.
    map-ascends c.args.values.items
    (subst (λ (ps : ValueRow). bindings_of ps ≡ ps) c.deref.ensures.value (c.is_map-ascends.ensures known)) in
    let less : s.room - 1 ≤ s.room = omega arith in
    let has : s.room - 1 ≤ c.replace-before.new.self.room =
    omega (arith, c.replace-before.ensures.room, c.self.invariant.has_room.values) in
    let has_lists : s.room - 1 ≤ s.contents.lists.room = omega (arith, c.self.invariant.has_room.its_lists) in
    rows-indexed s c.self.invariant c.args.pid place k at c.keep_order.new.objects c.replace-before.new.self
    s.contents.lists ascends k.gone k.potential c.args.values.items (lists_at (held_now s.contents) place) (s.room - 1)
    c.keep_order.ensures.now c.replace-before.ensures.now (same_lists s c.self.invariant c.args.pid place k at) order
    (own_rows s c.self.invariant c.args.pid place k at).1 c.keep_order.ensures.marked c.replace-before.ensures.marked
    refl less c.keep_order.ensures.room has has_lists

pub returns-clause-state : goal.returns-clause-state
returns-clause-state c =
    let s = c.self.inside in
    let place = c.in-Some.place in
    let k = c.in-Some.before in
    let at : ProcessIsAt (held_now s.contents) c.args.pid place k =
    MatchOption-at_some _ _ (place, k) c.in-Some.is c.process_at.ensures in
    let ascends = c.is_map-ascends.result in
    let order : AscendsIf ascends c.args.values.items = λ known.
    map-ascends c.args.values.items
    (subst (λ (ps : ValueRow). bindings_of ps ≡ ps) c.deref.ensures.value (c.is_map-ascends.ensures known)) in
    let less : s.room - 1 ≤ s.room = omega arith in
    let has : s.room - 1 ≤ c.replace-before.new.self.room =
    omega (arith, c.replace-before.ensures.room, c.self.invariant.has_room.values) in
    let has_lists : s.room - 1 ≤ s.contents.lists.room = omega (arith, c.self.invariant.has_room.its_lists) in
    let after = record s.contents { objects = c.keep_order.new.objects; values = c.replace-before.new.self } in
    subst (λ (i : Indexed). Becomes i.state c.args.pid (with_values c.args.values.items) (state_of (held_now after)))
    c.self.view_is
    (rows-become s c.self.invariant c.args.pid place k at c.keep_order.new.objects c.replace-before.new.self
    s.contents.lists ascends k.gone k.potential c.args.values.items (lists_at (held_now s.contents) place) (s.room - 1)
    c.keep_order.ensures.now c.replace-before.ensures.now (same_lists s c.self.invariant c.args.pid place k at) order
    (own_rows s c.self.invariant c.args.pid place k at).1 c.keep_order.ensures.marked c.replace-before.ensures.marked
    refl less c.keep_order.ensures.room has has_lists
    (with_values c.args.values.items) refl)

pub returns-clause-none : goal.returns-clause-none
returns-clause-none c none =
    let h = held_now c.self.inside.contents in
    absurd (not-none _ h c.args.pid c.in-Some.place c.in-Some.before (ap (λ (i : Indexed). i.state) c.self.view_is)
    (MatchOption-at_some _ _ (c.in-Some.place, c.in-Some.before) c.in-Some.is c.process_at.ensures) none)
