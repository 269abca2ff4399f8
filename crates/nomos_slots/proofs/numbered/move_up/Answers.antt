use Rattle.std.proofs.Common.{◌≡◌, ◌<◌, ◌+◌, ℕ, true, false, length, sym, subst, ◌∙◌, arith}
use Rattle.std.specs.Option.{is_some}
use Rattle.nomos_slots.specs.Marking.{Marking}
use Rattle.nomos_slots.specs.declared.numbered.Slot.{Slot}
use Rattle.nomos_slots.proofs.GapLemmas.{IsMoved, moved-past_gap, moved-one_up, slot-within}
use Rattle.nomos_slots.proofs.numbered.move_up.Goals as goal
use Rattle.nomos_slots.proofs.numbered.move_up.Goals.{in-Some+then-is_some, in-Some+else-is_some, in_default}

pub loop-place-preserved : goal.loop-place-preserved
loop-place-preserved g c =
    let from = c.args.from in
    let old = c.args.slots.now in
    let to = c.loop-place.to in
    let place = c.loop-place.place in
    let slots = c.loop-place.slots in
    let is = c.loop-place.invariant in
    let within : place < length slots.now = omega arith in
    let Kept : Type 0 = Marking (Slot _) in
    let Moved : ℕ → Kept → Type 0 = λ next kept. IsMoved from old next (place + 1) kept in
    let joined = c.match-get in
    let as_is = λ (next : ℕ) (kept : Kept) (t : joined.to ≡ next) (s : joined.slots ≡ kept) (h : Moved next kept).
    subst (λ n. Moved n joined.slots) (sym t) (subst (Moved next) (sym s) h) in
    elim c.match-get.branch [
      | in-Some+then-is_some w ↦
          let slot = w.in-Some.slot in
          let has : is_some slot.item ≡ true = sym w.is_some.ensures ∙ w.if-is_some.true in
          as_is (to + 1) w.put.new.self w.to-is w.slots-is
          (moved-one_up from old to place slots w.put.new.self slot is w.in-Some.ensures has w.put.ensures.now
          w.put.ensures.marked w.put.ensures.room w.put.ensures.seats)
      | in-Some+else-is_some w ↦
          let slot = w.in-Some.slot in
          let gap : is_some slot.item ≡ false = sym w.is_some.ensures ∙ w.if-is_some.false in
          as_is to slots w.to-is w.slots-is
          (moved-past_gap from old to place slots slot is w.in-Some.ensures gap)
      | in_default w ↦ absurd (slot-within slots.now place within w.in_default.ensures)
    ]
