use Rattle.std.proofs.Common.{◌≡◌, ◌<◌, ◌≤◌, ℕ, length, cond, List, set, get_or, sym, ap, ◌∙◌, arith, eq-eqb, ne_eqb}
use Rattle.std.proofs.lemmas.Option.{get_or_from_slice_get}
use Rattle.nomos_machine.specs.Revised.{renamed}
use Rattle.nomos_slots.specs.Marking.{Marking}
use Rattle.nomos_slots.proofs.ChangedLaws.{changed_first, changed-read, changed-same, changed-next, changed-all, length-changed}
use Rattle.nomos_state.proofs.RedirectLemmas.{no-item}
use Rattle.nomos_state.proofs.redirecting.rename_all.Goals as goal
use Rattle.nomos_state.proofs.redirecting.rename_all.Goals.{in-Some+then-name-old, in-Some+else-name-old, in_default}

pub put-requires-clause-seats : goal.put-requires-clause-seats
put-requires-clause-seats c =
    let inv = c.loop-at.invariant in
    let f = renamed c.args.old c.args.new in
    omega (arith, ap length inv.now, length-changed f c.loop-at.at c.args.names.now.now, inv.seats, c.requires)

pub put-requires-clause-within : goal.put-requires-clause-within
put-requires-clause-within c =
    let inv = c.loop-at.invariant in
    let f = renamed c.args.old c.args.new in
    omega (
      arith,
      ap length inv.now,
      length-changed f c.loop-at.at c.args.names.now.now,
      c.len-at-end.ensures,
      c.loop-at-test.true,
    )

pub loop-at-preserved : goal.loop-at-preserved
loop-at-preserved c =
    let old = c.args.old in
    let new = c.args.new in
    let f = renamed old new in
    let names = c.args.names.now.now in
    let at = c.loop-at.at in
    let inv = c.loop-at.invariant in
    let within : at < length names = omega (arith, c.len-at-end.ensures, c.loop-at-test.true) in
    let here : at < length c.loop-at.names.now = omega (arith, ap length inv.now, length-changed f at names, within) in
    elim c.match-get.branch [
      | in-Some+then-name-old w ↦
          let name = w.in-Some.name in
          let read : get_or names at 0 ≡ name =
          sym (changed-read f at names 0) ∙ ap (λ (xs : List ℕ). get_or xs at 0) (sym inv.now)
          ∙ get_or_from_slice_get c.loop-at.names.now at name 0 (sym w.in-Some.ensures) in
          let there : f (get_or names at 0) ≡ new =
          ap f read ∙ ap (λ b. cond b new name) (eq-eqb name old w.if-name-old.true) in
          record {
            now =
                ap (λ (m : Marking ℕ). m.now) w.names-is ∙ w.put.ensures.now
                ∙ ap (λ (xs : List ℕ). set xs at new) inv.now
                ∙ ap (set (changed_first f at names) at) (sym there)
                ∙ changed-next f at names 0 within;
            marked = ap (λ (m : Marking ℕ). m.marked) w.names-is ∙ w.put.ensures.marked ∙ inv.marked;
            seats = ap (λ (m : Marking ℕ). m.seats) w.names-is ∙ w.put.ensures.seats ∙ inv.seats;
          }
      | in-Some+else-name-old w ↦
          let name = w.in-Some.name in
          let read : get_or names at 0 ≡ name =
          sym (changed-read f at names 0) ∙ ap (λ (xs : List ℕ). get_or xs at 0) (sym inv.now)
          ∙ get_or_from_slice_get c.loop-at.names.now at name 0 (sym w.in-Some.ensures) in
          let same : f (get_or names at 0) ≡ get_or names at 0 =
          ap f read ∙ ap (λ b. cond b new name) (ne_eqb name old w.if-name-old.false) ∙ sym read in
          record {
            now = ap (λ (m : Marking ℕ). m.now) w.names-is ∙ inv.now ∙ changed-same f at names 0 within same;
            marked = ap (λ (m : Marking ℕ). m.marked) w.names-is ∙ inv.marked;
            seats = ap (λ (m : Marking ℕ). m.seats) w.names-is ∙ inv.seats;
          }
      | in_default w ↦ absurd (no-item c.loop-at.names.now at here w.in_default.ensures)
    ]

pub returns-clause-now : goal.returns-clause-now
returns-clause-now c =
    let f = renamed c.args.old c.args.new in
    let past : length c.args.names.now.now ≤ c.loop-at.at = omega (arith, c.len-at-end.ensures, c.loop-at-test.false) in
    c.loop-at.invariant.now ∙ changed-all f c.loop-at.at c.args.names.now.now past
