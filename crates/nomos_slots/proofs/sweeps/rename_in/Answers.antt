use Rattle.std.proofs.Common.{◌≡◌, ◌<◌, ◌≤◌, ◌&&◌, length, Bool, refl, eqb, cond, List, None, Some, false, true, sym, ap, ◌∙◌, arith, eq-eqb, ne_eqb, get_or, set}
use Rattle.std.proofs.lemmas.Bool.{and_from}
use Rattle.nomos_slots.specs.Marking.{Marking}
use Rattle.nomos_slots.specs.Cells.{Cell, cell_at}
use Rattle.nomos_slots.specs.Sweeps.{renamed_cell}
use Rattle.nomos_slots.proofs.ChangedLaws.{changed_first, changed-read, changed-same, changed-next, changed-all, length-changed}
use Rattle.nomos_slots.proofs.sweeps.rename_in.Goals as goal
use Rattle.nomos_slots.proofs.sweeps.rename_in.Goals.{in-Some+then-entry-process+then-entry-old, in-Some+else-entry-process, else-entry-process-via-then-entry-process+else-entry-old, else-entry-process-via-else-entry-process, in_default}

no-other : (a b : Bool) → b ≡ false → (a && b) ≡ false
no-other true b not = not
no-other false b not = refl

pub put-requires-clause-seats : goal.put-requires-clause-seats
put-requires-clause-seats c =
    let inv = c.loop-at.invariant in
    let f = renamed_cell c.args.process c.args.old c.args.new in
    omega (arith, ap length inv.now, length-changed f c.loop-at.at c.args.cells.now.now, inv.seats, c.requires)

pub loop-at-preserved : goal.loop-at-preserved
loop-at-preserved c =
    let process = c.args.process in
    let old = c.args.old in
    let f = renamed_cell process old c.args.new in
    let cells = c.args.cells.now.now in
    let at = c.loop-at.at in
    let inv = c.loop-at.invariant in
    let within : at < length cells = omega (arith, c.len-at-end.ensures) in
    let read : get_or cells at None ≡ c.cell.result =
    sym (changed-read f at cells None) ∙ ap (λ (cs : List Cell). cell_at cs at) (sym inv.now) ∙ sym c.cell.ensures in
    elim c.match-cell.branch [
      | in-Some+then-entry-process+then-entry-old w ↦
          let e = w.in-Some.entry in
          let tested : (eqb e.process process && eqb e.name old) ≡ true =
          and_from _ _ (eq-eqb e.process process w.if-entry-process.true) (eq-eqb e.name old w.if-entry-old.true) in
          let put = ap (λ b. Some (cond b (record e { name = c.args.new }) e)) tested in
          let there : f (get_or cells at None) ≡ Some (record e { name = c.args.new }) =
          ap f (read ∙ w.in-Some.is) ∙ put in
          record {
            now = ap (λ (m : Marking Cell). m.now) w.cells-is ∙ w.put.ensures.now
                ∙ ap (λ (cs : List Cell). set cs at (Some (record e { name = c.args.new }))) inv.now
                ∙ ap (set (changed_first f at cells) at) (sym there)
                ∙ changed-next f at cells None within;
            marked = ap (λ (m : Marking Cell). m.marked) w.cells-is ∙ w.put.ensures.marked ∙ inv.marked;
            seats = ap (λ (m : Marking Cell). m.seats) w.cells-is ∙ w.put.ensures.seats ∙ inv.seats;
          }
      | in-Some+else-entry-process w ↦
          let e = w.in-Some.entry in
          let tested : (eqb e.process process && eqb e.name old) ≡ false =
          elim w.else-entry-process.branch [
            | else-entry-process-via-then-entry-process+else-entry-old v ↦
                no-other (eqb e.process process) _ (ne_eqb e.name old v.if-entry-old.false)
            | else-entry-process-via-else-entry-process v ↦
                ap (λ b. b && eqb e.name old) (ne_eqb e.process process v.if-entry-process.false)
          ] in
          let same : f (get_or cells at None) ≡ get_or cells at None =
          ap f (read ∙ w.in-Some.is) ∙ ap (λ b. Some (cond b (record e { name = c.args.new }) e)) tested
          ∙ sym (read ∙ w.in-Some.is) in
          record {
            now = ap (λ (m : Marking Cell). m.now) w.cells-is ∙ inv.now ∙ changed-same f at cells None within same;
            marked = ap (λ (m : Marking Cell). m.marked) w.cells-is ∙ inv.marked;
            seats = ap (λ (m : Marking Cell). m.seats) w.cells-is ∙ inv.seats;
          }
      | in_default w ↦
          let same : f (get_or cells at None) ≡ get_or cells at None =
          ap f (read ∙ w.in_default.is) ∙ sym (read ∙ w.in_default.is) in
          record {
            now = ap (λ (m : Marking Cell). m.now) w.cells-is ∙ inv.now ∙ changed-same f at cells None within same;
            marked = ap (λ (m : Marking Cell). m.marked) w.cells-is ∙ inv.marked;
            seats = ap (λ (m : Marking Cell). m.seats) w.cells-is ∙ inv.seats;
          }
    ]

pub returns-clause-now : goal.returns-clause-now
returns-clause-now c =
    let f = renamed_cell c.args.process c.args.old c.args.new in
    let past : length c.args.cells.now.now ≤ c.loop-at.at = omega (arith, c.len-at-end.ensures) in
    c.loop-at.invariant.now ∙ changed-all f c.loop-at.at c.args.cells.now.now past
