use Rattle.std.proofs.Common.{ℕ, drop, sym, ap, subst}
use Rattle.std.proofs.lemmas.Option.{MatchOption-at_some}
use Rattle.nomos_changes.specs.SmallChanges.{Becomes, with_lists}
use Rattle.nomos_state.specs.Indexed.{Indexed, held_now, state_of}
use Rattle.nomos_state.specs.Looked.{ProcessIsAt, lists_at, values_at}
use Rattle.nomos_state.specs.Objects.{IsPotentialIf, ListRow, process_held}
use Rattle.nomos_state.proofs.ChangingLemmas.{lists-become, lists-indexed}
use Rattle.nomos_state.proofs.PotentialLemmas.{none-gone}
use Rattle.nomos_state.proofs.ProcessLemmas.{not-none}
use Rattle.nomos_state.proofs.inside.Inside.put_lists.Goals as goal

pub keep_lists-requires : goal.keep_lists-requires
keep_lists-requires c =
    let s = c.self.inside in
    let place = c.in-Some.place in
    let k = c.in-Some.before in
    let at : ProcessIsAt (held_now s.contents) c.args.pid place k =
    MatchOption-at_some _ _ (place, k) c.in-Some.is c.process_at.ensures in
    at.at

pub invariant_of-self : goal.invariant_of-self
invariant_of-self c =
    let s = c.self.inside in
    let place = c.in-Some.place in
    let k = c.in-Some.before in
    let at : ProcessIsAt (held_now s.contents) c.args.pid place k =
    MatchOption-at_some _ _ (place, k) c.in-Some.is c.process_at.ensures in
    let kept = c.kept_lists-kept.result in
    let carries : IsPotentialIf kept.potential c.args.lists.items =
    subst (λ (row : ListRow). IsPotentialIf kept.potential row) c.deref.ensures.value
    c.kept_lists-kept.ensures.potential in
    let fits = none-gone kept.gone kept.potential c.args.lists.items c.kept_lists-kept.ensures.gone carries in
    lists-indexed s c.self.invariant c.args.pid place k at c.keep_lists.new.objects c.replace-before.new.self kept.gone
    kept.potential c.args.lists.items c.keep_lists.ensures.now c.replace-before.ensures.now fits
    c.keep_lists.ensures.marked c.replace-before.ensures.marked c.keep_lists.ensures.room c.replace-before.ensures.room

pub returns-clause-state : goal.returns-clause-state
returns-clause-state c =
    let s = c.self.inside in
    let place = c.in-Some.place in
    let k = c.in-Some.before in
    let at : ProcessIsAt (held_now s.contents) c.args.pid place k =
    MatchOption-at_some _ _ (place, k) c.in-Some.is c.process_at.ensures in
    let kept = c.kept_lists-kept.result in
    let carries : IsPotentialIf kept.potential c.args.lists.items =
    subst (λ (row : ListRow). IsPotentialIf kept.potential row) c.deref.ensures.value
    c.kept_lists-kept.ensures.potential in
    let fits = none-gone kept.gone kept.potential c.args.lists.items c.kept_lists-kept.ensures.gone carries in
    let h = held_now s.contents in
    let after = record s.contents { objects = c.keep_lists.new.objects; lists = c.replace-before.new.self } in
    let held = process_held h.cells c.args.pid (values_at h place) (lists_at h place) k in
    subst (λ (i : Indexed). Becomes i.state c.args.pid (with_lists c.args.lists.items) (state_of (held_now after)))
    c.self.view_is
    (lists-become s c.self.invariant c.args.pid place k at c.keep_lists.new.objects c.replace-before.new.self kept.gone
    kept.potential c.args.lists.items c.keep_lists.ensures.now c.replace-before.ensures.now fits
    c.keep_lists.ensures.marked c.replace-before.ensures.marked c.keep_lists.ensures.room
    c.replace-before.ensures.room (with_lists c.args.lists.items)
    (ap (λ (n : ℕ). with_lists (drop n c.args.lists.items) held) (sym c.kept_lists-kept.ensures.gone)))

pub returns-clause-none : goal.returns-clause-none
returns-clause-none c none =
    let h = held_now c.self.inside.contents in
    absurd (not-none _ h c.args.pid c.in-Some.place c.in-Some.before (ap (λ (i : Indexed). i.state) c.self.view_is)
    (MatchOption-at_some _ _ (c.in-Some.place, c.in-Some.before) c.in-Some.is c.process_at.ensures) none)
