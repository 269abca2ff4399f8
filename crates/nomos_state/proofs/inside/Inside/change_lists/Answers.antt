use Rattle.std.proofs.Common.{◌≤◌, ◌-◌, ◌∙◌, [], List, drop, refl, sym, ap, subst, arith, slice_index_or, slice_set}
use Rattle.std.proofs.lemmas.Option.{MatchOption-at_some}
use Rattle.nomos_machine.specs.declared.object.Process.{Process}
use Rattle.nomos_changes.specs.SmallChanges.{Becomes, bound_if, unbound_if, with_list_change}
use Rattle.nomos_state.specs.Indexed.{Indexed, held_now, state_of}
use Rattle.nomos_state.specs.Looked.{ProcessIsAt, lists_at, values_at}
use Rattle.nomos_state.specs.Objects.{AscendsIf, FitsLists, ListRow, ValueRow, process_held}
use Rattle.nomos_state.specs.declared.kept.KeptLists.{KeptLists}
use Rattle.nomos_state.proofs.AgainLemmas.{on_any_err, resting-indexed, resting-marks, resting-state}
use Rattle.nomos_state.proofs.ChangingLemmas.{rows-become, rows-indexed}
use Rattle.nomos_state.proofs.ProcessLemmas.{ascends-kept, lists-kept, not-none}
use Rattle.nomos_state.proofs.RowLemmas.{bound-ascends}
use Rattle.nomos_state.proofs.inside.Inside.change_lists.Goals as goal

pub bind_if-requires-clause-order : goal.bind_if-requires-clause-order
bind_if-requires-clause-order c =
    let s = c.self.inside in
    let place = c.in-Some.place in
    let k = c.in-Some.before in
    let at : ProcessIsAt (held_now s.contents) c.args.pid place k =
    MatchOption-at_some _ _ (place, k) c.in-Some.is c.process_at.ensures in
    ascends-kept (held_now s.contents) c.self.invariant.now place c.args.pid k at.at

pub change_row-kept-requires-clause-fits : goal.change_row-kept-requires-clause-fits
change_row-kept-requires-clause-fits c =
    let s = c.self.inside in
    let place = c.in-Some.place in
    let k = c.in-Some.before in
    let at : ProcessIsAt (held_now s.contents) c.args.pid place k =
    MatchOption-at_some _ _ (place, k) c.in-Some.is c.process_at.ensures in
    subst (λ (kept : KeptLists). FitsLists kept.gone kept.potential
    (slice_index_or c.own_row.new.lists.now place [])) (sym c.lists.ensures)
    (subst (λ (rows : List ListRow). FitsLists k.gone k.potential (slice_index_or rows place []))
    (sym c.own_row.ensures.now)
    (lists-kept (held_now s.contents) c.self.invariant.now place c.args.pid k at.at))

pub keep_lists-requires : goal.keep_lists-requires
keep_lists-requires c =
    let s = c.self.inside in
    let place = c.in-Some.place in
    let k = c.in-Some.before in
    let at : ProcessIsAt (held_now s.contents) c.args.pid place k =
    MatchOption-at_some _ _ (place, k) c.in-Some.is c.process_at.ensures in
    at.at

pub invariant_of-self : goal.invariant_of-self
invariant_of-self c =
    let s = c.self.inside in
    let less : s.room - 2 ≤ s.room = omega arith in
    let has : s.room - 2 ≤ s.contents.values.room = omega (arith, c.self.invariant.has_room.values) in
    let has_lists : s.room - 2 ≤ c.own_row.new.lists.room =
    omega (arith, c.own_row.ensures.room, c.self.invariant.has_room.its_lists) in
    resting-indexed s s.contents.values c.own_row.new.lists refl c.own_row.ensures.now refl c.own_row.ensures.marked
    (s.room - 2) c.self.invariant less has has_lists

pub returns-in_err-own_row-clause-err : goal.returns-in_err-own_row-clause-err
returns-in_err-own_row-clause-err c =
    let s = c.self.inside in
    on_any_err c.from_residual.result
    (resting-state s s.contents.values c.own_row.new.lists refl c.own_row.ensures.now refl c.own_row.ensures.marked
    ∙ ap (λ (i : Indexed). i.state) c.self.view_is)

pub returns-in_err-own_row-clause-marked : goal.returns-in_err-own_row-clause-marked
returns-in_err-own_row-clause-marked c =
    let s = c.self.inside in
    resting-marks s s.contents.values c.own_row.new.lists refl c.own_row.ensures.now refl c.own_row.ensures.marked
    ∙ ap (λ (i : Indexed). i.marked) c.self.view_is

pub invariant_of-self-in_err-bind_if : goal.invariant_of-self-in_err-bind_if
invariant_of-self-in_err-bind_if c =
    let s = c.self.inside in
    let less : s.room - 2 ≤ s.room = omega arith in
    let has : s.room - 2 ≤ c.bind_if.new.values.room =
    omega (arith, c.bind_if.ensures.room, c.self.invariant.has_room.values) in
    let has_lists : s.room - 2 ≤ c.own_row.new.lists.room =
    omega (arith, c.own_row.ensures.room, c.self.invariant.has_room.its_lists) in
    resting-indexed s c.bind_if.new.values c.own_row.new.lists c.in_err-bind_if.ensures.err c.own_row.ensures.now
    c.bind_if.ensures.marked c.own_row.ensures.marked (s.room - 2) c.self.invariant less has has_lists

pub returns-in_err-bind_if-clause-err : goal.returns-in_err-bind_if-clause-err
returns-in_err-bind_if-clause-err c =
    let s = c.self.inside in
    on_any_err c.from_residual-in_err-bind_if.result
    (resting-state s c.bind_if.new.values c.own_row.new.lists c.in_err-bind_if.ensures.err c.own_row.ensures.now
    c.bind_if.ensures.marked c.own_row.ensures.marked
    ∙ ap (λ (i : Indexed). i.state) c.self.view_is)

pub returns-in_err-bind_if-clause-marked : goal.returns-in_err-bind_if-clause-marked
returns-in_err-bind_if-clause-marked c =
    let s = c.self.inside in
    resting-marks s c.bind_if.new.values c.own_row.new.lists c.in_err-bind_if.ensures.err c.own_row.ensures.now
    c.bind_if.ensures.marked c.own_row.ensures.marked
    ∙ ap (λ (i : Indexed). i.marked) c.self.view_is

pub invariant_of-self-2 : goal.invariant_of-self-2
invariant_of-self-2 c =
    let s = c.self.inside in
    let place = c.in-Some.place in
    let k = c.in-Some.before in
    let at : ProcessIsAt (held_now s.contents) c.args.pid place k =
    MatchOption-at_some _ _ (place, k) c.in-Some.is c.process_at.ensures in
    let h = held_now s.contents in
    let change = c.args.change in
    let row : ValueRow = bound_if change.value (values_at h place) in
    let kept = c.change_row-kept.result in
    let rows = c.change_row-kept.new.lists.now in
    let list_rows =
    c.change_row-kept.ensures.row
    ∙ ap (λ (rs : List ListRow). slice_set rs place (slice_index_or rows place [])) c.own_row.ensures.now in
    let order : AscendsIf k.ascends row = λ known.
    bound-ascends change.value (values_at h place)
    (ascends-kept h c.self.invariant.now place c.args.pid k at.at known) in
    let its_marked = c.change_row-kept.ensures.marked ∙ c.own_row.ensures.marked in
    let less : s.room - 2 ≤ s.room = omega arith in
    let has : s.room - 2 ≤ c.bind_if.new.values.room =
    omega (arith, c.bind_if.ensures.room, c.self.invariant.has_room.values) in
    let has_lists : s.room - 2 ≤ c.change_row-kept.new.lists.room =
    omega (arith, c.own_row.ensures.room, c.change_row-kept.ensures.room, c.self.invariant.has_room.its_lists) in
    rows-indexed s c.self.invariant c.args.pid place k at c.keep_lists.new.objects c.bind_if.new.values
    c.change_row-kept.new.lists k.ascends kept.gone kept.potential row (slice_index_or rows place []) (s.room - 2)
    c.keep_lists.ensures.now c.in_ok-bind_if.ensures.ok list_rows order c.change_row-kept.ensures.fits
    c.keep_lists.ensures.marked c.bind_if.ensures.marked its_marked less c.keep_lists.ensures.room has has_lists

pub returns-clause-ok : goal.returns-clause-ok
returns-clause-ok c =
    let s = c.self.inside in
    let place = c.in-Some.place in
    let k = c.in-Some.before in
    let at : ProcessIsAt (held_now s.contents) c.args.pid place k =
    MatchOption-at_some _ _ (place, k) c.in-Some.is c.process_at.ensures in
    let h = held_now s.contents in
    let change = c.args.change in
    let row : ValueRow = bound_if change.value (values_at h place) in
    let kept = c.change_row-kept.result in
    let rows = c.change_row-kept.new.lists.now in
    let list_rows =
    c.change_row-kept.ensures.row
    ∙ ap (λ (rs : List ListRow). slice_set rs place (slice_index_or rows place [])) c.own_row.ensures.now in
    let order : AscendsIf k.ascends row = λ known.
    bound-ascends change.value (values_at h place)
    (ascends-kept h c.self.invariant.now place c.args.pid k at.at known) in
    let its_marked = c.change_row-kept.ensures.marked ∙ c.own_row.ensures.marked in
    let less : s.room - 2 ≤ s.room = omega arith in
    let has : s.room - 2 ≤ c.bind_if.new.values.room =
    omega (arith, c.bind_if.ensures.room, c.self.invariant.has_room.values) in
    let has_lists : s.room - 2 ≤ c.change_row-kept.new.lists.room =
    omega (arith, c.own_row.ensures.room, c.change_row-kept.ensures.room, c.self.invariant.has_room.its_lists) in
    let after = record s.contents {
      objects = c.keep_lists.new.objects;
      values = c.bind_if.new.values;
      lists = c.change_row-kept.new.lists;
    } in
    let held : ListRow → Process = λ its_lists.
    record (process_held h.cells c.args.pid (values_at h place) (lists_at h place) k) {
      values = row;
      lists = its_lists;
    } in
    let turned : ListRow → ListRow = λ ls. bound_if change.bound (unbound_if change.used_up ls) in
    let left =
    c.change_row-kept.ensures.left
    ∙ ap (λ (n : KeptLists). turned (drop n.gone (slice_index_or c.own_row.new.lists.now place []))) c.lists.ensures
    ∙ ap (λ (rs : List ListRow). turned (drop k.gone (slice_index_or rs place []))) c.own_row.ensures.now in
    subst (λ (i : Indexed). Becomes i.state c.args.pid (with_list_change change) (state_of (held_now after)))
    c.self.view_is
    (rows-become s c.self.invariant c.args.pid place k at c.keep_lists.new.objects c.bind_if.new.values
    c.change_row-kept.new.lists k.ascends kept.gone kept.potential row (slice_index_or rows place []) (s.room - 2)
    c.keep_lists.ensures.now c.in_ok-bind_if.ensures.ok list_rows order c.change_row-kept.ensures.fits
    c.keep_lists.ensures.marked c.bind_if.ensures.marked its_marked less c.keep_lists.ensures.room has has_lists
    (with_list_change change) (ap held (sym left)))

pub returns-clause-none : goal.returns-clause-none
returns-clause-none c none =
    let h = held_now c.self.inside.contents in
    absurd (not-none _ h c.args.pid c.in-Some.place c.in-Some.before (ap (λ (i : Indexed). i.state) c.self.view_is)
    (MatchOption-at_some _ _ (c.in-Some.place, c.in-Some.before) c.in-Some.is c.process_at.ensures) none)
