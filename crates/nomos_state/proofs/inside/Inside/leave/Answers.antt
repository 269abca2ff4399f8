use Rattle.std.proofs.Common.{◌≡◌, List, None, subst, ap, ◌∙◌, arith}
use Rattle.std.proofs.lemmas.Option.{MatchOption-at_none, MatchOption-at_some}
use Rattle.std.specs.List.{slice_set}
use Rattle.nomos_changes.specs.SmallChanges.{without_object}
use Rattle.nomos_machine.specs.declared.object.Object.{Object}
use Rattle.nomos_state.specs.Indexed.{Indexed, held_now, state_of}
use Rattle.nomos_state.specs.Looked.{ObjectIsAt}
use Rattle.nomos_state.proofs.LeavingLemmas.{leaving-indexed, leaving-state, put-absent, stands-within}
use Rattle.nomos_state.proofs.ProcessLemmas.{spans-kept}
use Rattle.nomos_state.proofs.TogetherLemmas.{same-names}
use Rattle.nomos_state.proofs.inside.Inside.leave.Goals as goal

pub returns-in_default-clause-state : goal.returns-in_default-clause-state
returns-in_default-clause-state c =
    let state = state_of (held_now c.self.inside.contents) in
    let none = MatchOption-at_none _ _ c.in_default.is c.object_at.ensures in
    let same : state ≡ without_object c.args.number state =
    ap (λ (os : List Object). record state { objects = os }) (put-absent c.args.number None state.objects none) in
    subst (λ (i : Indexed). i.state ≡ without_object c.args.number i.state) c.self.view_is same

pub drop_span-requires : goal.drop_span-requires
drop_span-requires c v some =
    let h = held_now c.self.inside.contents in
    let at : ObjectIsAt h c.args.number c.in-Some.place c.in-Some.before =
    MatchOption-at_some _ _ (c.in-Some.place, c.in-Some.before) c.in-Some.is c.object_at.ensures in
    c.span.ensures v (spans-kept h c.self.invariant.now c.in-Some.place c.args.number c.in-Some.before at.at v some)

pub replace-values-requires-clause-within : goal.replace-values-requires-clause-within
replace-values-requires-clause-within c =
    let h = held_now c.self.inside.contents in
    let at : ObjectIsAt h c.args.number c.in-Some.place c.in-Some.before =
    MatchOption-at_some _ _ (c.in-Some.place, c.in-Some.before) c.in-Some.is c.object_at.ensures in
    let within = stands-within h c.args.number c.in-Some.place c.in-Some.before at in
    omega (arith, within, c.self.invariant.now.value_rows)

pub replace-lists-requires-clause-within : goal.replace-lists-requires-clause-within
replace-lists-requires-clause-within c =
    let h = held_now c.self.inside.contents in
    let at : ObjectIsAt h c.args.number c.in-Some.place c.in-Some.before =
    MatchOption-at_some _ _ (c.in-Some.place, c.in-Some.before) c.in-Some.is c.object_at.ensures in
    let within = stands-within h c.args.number c.in-Some.place c.in-Some.before at in
    omega (arith, within, c.self.invariant.now.list_rows)

pub put-requires : goal.put-requires
put-requires c =
    let h = held_now c.self.inside.contents in
    let at : ObjectIsAt h c.args.number c.in-Some.place c.in-Some.before =
    MatchOption-at_some _ _ (c.in-Some.place, c.in-Some.before) c.in-Some.is c.object_at.ensures in
    stands-within h c.args.number c.in-Some.place c.in-Some.before at

pub invariant_of-self : goal.invariant_of-self
invariant_of-self c =
    let s = c.self.inside in
    let place = c.in-Some.place in
    let k = c.in-Some.before in
    let at : ObjectIsAt (held_now s.contents) c.args.number place k =
    MatchOption-at_some _ _ (place, k) c.in-Some.is c.object_at.ensures in
    let rows = c.replace-values.ensures.now
    ∙ ap (λ (row : List _). slice_set s.contents.values.now place row) c.new.ensures.items in
    let list_rows = c.replace-lists.ensures.now
    ∙ ap (λ (row : List _). slice_set s.contents.lists.now place row) c.new-2.ensures.items in
    leaving-indexed s c.self.invariant c.args.number place k at c.put.new.self c.replace-values.new.self
    c.replace-lists.new.self c.drop_span.new.channels c.put.ensures.marked c.replace-values.ensures.marked
    c.replace-lists.ensures.marked (same-names _ _ c.drop_span.ensures.marked) c.put.ensures.now rows list_rows
    c.drop_span.ensures.names
    (record {
      objects = omega (arith, c.put.ensures.room, c.self.invariant.has_room.objects);
      values = omega (arith, c.replace-values.ensures.room, c.self.invariant.has_room.values);
      its_lists = omega (arith, c.replace-lists.ensures.room, c.self.invariant.has_room.its_lists);
      channels = omega (arith, c.drop_span.ensures.room, c.self.invariant.has_room.channels);
      names = omega (arith, c.self.invariant.has_room.names);
    })

pub returns-clause-state : goal.returns-clause-state
returns-clause-state c =
    let s = c.self.inside in
    let place = c.in-Some.place in
    let k = c.in-Some.before in
    let at : ObjectIsAt (held_now s.contents) c.args.number place k =
    MatchOption-at_some _ _ (place, k) c.in-Some.is c.object_at.ensures in
    let rows = c.replace-values.ensures.now
    ∙ ap (λ (row : List _). slice_set s.contents.values.now place row) c.new.ensures.items in
    let list_rows = c.replace-lists.ensures.now
    ∙ ap (λ (row : List _). slice_set s.contents.lists.now place row) c.new-2.ensures.items in
    leaving-state s c.self.invariant c.args.number place k at c.put.new.self c.replace-values.new.self
    c.replace-lists.new.self c.drop_span.new.channels c.put.ensures.marked c.replace-values.ensures.marked
    c.replace-lists.ensures.marked (same-names _ _ c.drop_span.ensures.marked) c.put.ensures.now rows list_rows
    c.drop_span.ensures.names
    ∙ ap (λ (i : Indexed). without_object c.args.number i.state) c.self.view_is
