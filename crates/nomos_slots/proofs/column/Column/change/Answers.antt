use Rattle.std.proofs.Common.{◌<◌, true, refl, ap, sym, subst, ◌∙◌, length, set, arith}
use Rattle.std.proofs.lemmas.Bool.{both_ways, true_from_ne_false}
use Rattle.std.proofs.lemmas.List.{length-map}
use Rattle.nomos_slots.specs.Log.{mark_len, HasSeat}
use Rattle.nomos_slots.proofs.SeatLemmas.{one-more, seat-there}
use Rattle.nomos_slots.specs.Marking.{Marking}
use Rattle.nomos_slots.specs.declared.column.Logged.{Logged}
use Rattle.nomos_slots.proofs.MarkLemmas.{is_kept_read, records-set, IsSound_first, marked_first, IsSound_again, marked_again}
use Rattle.nomos_slots.proofs.column.Column.change.Goals as goal

pub invariant_of-self : goal.invariant_of-self
invariant_of-self g c =
    let s = c.self.inside in
    let at = c.args.place in
    let es = s.items.items in
    let log = s.log.items in
    let new = c.push_reserved.new.self.items in
    let old = c.index.result.now in
    let e : Logged _ = record { item = c.args.item; kept = true } in
    let due = c.is_due.ensures.0 c.if-is_due.true in
    let l : at < length es = omega (arith, c.self.invariant.within, due.0) in
    let not = is_kept_read es at old l c.index.ensures ∙ due.1 in
    let logged = c.push_reserved.ensures.items in
    IsSound_first es log new s.marked at old.item e c.self.invariant due.0 not refl logged

pub invariant_of-self-else-is_due : goal.invariant_of-self-else-is_due
invariant_of-self-else-is_due g c =
    let s = c.self.inside in
    let at = c.args.place in
    let es = s.items.items in
    let v = ap (λ (m : Marking _). length m.now) c.self.view_is in
    let l : at < length es = omega (arith, v, c.requires.within, length-map es (λ (e : Logged _). e.item)) in
    let read = is_kept_read es at c.index.result.now l c.index.ensures in
    IsSound_again es s.log.items s.marked at _ c.self.invariant read l

pub returns-then-is_due-clause-now : goal.returns-then-is_due-clause-now
returns-then-is_due-clause-now g c =
    records-set c.self.inside.items.items c.args.place _
    ∙ ap (λ (m : Marking _). set m.now c.args.place c.args.item) c.self.view_is

pub returns-then-is_due-clause-marked : goal.returns-then-is_due-clause-marked
returns-then-is_due-clause-marked g c =
    let s = c.self.inside in
    let es = s.items.items in
    let log = s.log.items in
    let new = c.push_reserved.new.self.items in
    let old = c.index.result.now in
    let read = c.index.ensures in
    let due = c.is_due.ensures.0 c.if-is_due.true in
    let logged = c.push_reserved.ensures.items in
    marked_first es log new s.marked c.args.place old _ c.self.invariant due.0 read due.1 logged
    ∙ ap (λ (m : Marking _). m.marked) c.self.view_is

pub returns-else-is_due-clause-now : goal.returns-else-is_due-clause-now
returns-else-is_due-clause-now g c =
    records-set c.self.inside.items.items c.args.place _
    ∙ ap (λ (m : Marking _). set m.now c.args.place c.args.item) c.self.view_is

pub returns-else-is_due-clause-marked : goal.returns-else-is_due-clause-marked
returns-else-is_due-clause-marked g c =
    let s = c.self.inside in
    let at = c.args.place in
    let es = s.items.items in
    let has = λ (below : at < mark_len s.marked).
    let l : at < length es = omega (arith, c.self.invariant.within, below) in
    is_kept_read es at c.index.result.now l c.index.ensures
    ∙ true_from_ne_false _ (λ not. both_ways _ c.if-is_due.false (c.is_due.ensures.1 (below, not))) in
    marked_again es s.log.items s.marked at _ c.self.invariant has ∙ ap (λ (m : Marking _). m.marked) c.self.view_is

pub push_reserved-requires : goal.push_reserved-requires
push_reserved-requires g c =
    let s = c.self.inside in
    let at = c.args.place in
    let es = s.items.items in
    let old = c.index.result.now in
    let due = c.is_due.ensures.0 c.if-is_due.true in
    let l : at < length es = omega (arith, c.self.invariant.within, due.0) in
    let not = is_kept_read es at old l c.index.ensures ∙ due.1 in
    let seat = subst HasSeat (sym c.self.view_is) c.requires.room in
    seat-there s.items s.log s.marked at old.item c.self.invariant due.0 not seat

pub returns-then-is_due-clause-free : goal.returns-then-is_due-clause-free
returns-then-is_due-clause-free g c =
    let s = c.self.inside in
    let at = c.args.place in
    let es = s.items.items in
    let old = c.index.result.now in
    let due = c.is_due.ensures.0 c.if-is_due.true in
    let l : at < length es = omega (arith, c.self.invariant.within, due.0) in
    let not = is_kept_read es at old l c.index.ensures ∙ due.1 in
    let more = one-more es s.log.items s.marked at old.item c.self.invariant due.0 not in
    let room = ap (λ (m : Marking _). m.room) c.self.view_is in
    let seats = ap (λ (m : Marking _). m.seats) c.self.view_is in
    let len = ap (λ (m : Marking _). length m.now) c.self.view_is in
    omega (
      arith,
      room,
      seats,
      len,
      more,
      length-map es (λ (e : Logged _). e.item),
      c.push_reserved.ensures.len,
      c.push_reserved.ensures.capacity,
    )
