use Rattle.std.proofs.Common.{◌≡◌, ◌<◌, ◌+◌, ℕ, true, false, length, refl, sym, subst, ◌∙◌, arith}
use Rattle.nomos_slots.specs.Beside.{is_held_at}
use Rattle.nomos_slots.specs.Shelving.{Shelving}
use Rattle.nomos_slots.proofs.BesideLemmas.{AreClosed, closed-one_up, closed-past_gap, closed-start}
use Rattle.nomos_slots.proofs.beside.close_rows.Goals as goal
use Rattle.nomos_slots.proofs.beside.close_rows.Goals.{then-is_held, else-is_held}

pub loop-place-init : goal.loop-place-init
loop-place-init g c = record {
  from = omega arith;
  behind = omega arith;
  reach = omega arith;
  len = c.requires.long;
  room = omega arith;
  marked = refl;
  now = closed-start c.args.from c.args.slots.now.now c.args.rows.now.now c.requires.long;
}

pub loop-place-preserved : goal.loop-place-preserved
loop-place-preserved g c =
    let from = c.args.from in
    let slots = c.args.slots.now.now in
    let old = c.args.rows.now in
    let to = c.loop-place.to in
    let place = c.loop-place.place in
    let rows = c.loop-place.rows in
    let is = c.loop-place.invariant in
    let within : place < length slots = omega (arith, c.loop-place-test.true, c.len-place-end.ensures) in
    let joined = c.if-is_held in
    let Closed : ℕ → Shelving _ → Type 0 = λ next kept. AreClosed from slots old next (place + 1) kept in
    let as_is = λ (next : ℕ) (kept : Shelving _) (t : joined.to ≡ next) (s : joined.rows ≡ kept) (h : Closed next kept).
    subst (λ n. Closed n joined.rows) (sym t) (subst (Closed next) (sym s) h) in
    elim joined.branch [
      | then-is_held w ↦
          let held : is_held_at slots place ≡ true = sym c.is_held.ensures ∙ w.if-is_held.true in
          as_is (to + 1) w.move_row.new.rows w.to-is w.rows-is
          (closed-one_up from slots old to place rows w.move_row.new.rows is within held w.move_row.ensures.now
          w.move_row.ensures.marked w.move_row.ensures.room)
      | else-is_held w ↦
          let gap : is_held_at slots place ≡ false = sym c.is_held.ensures ∙ w.if-is_held.false in
          as_is to rows w.to-is w.rows-is (closed-past_gap from slots old to place rows is within gap)
    ]
