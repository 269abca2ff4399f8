use Rattle.std.proofs.Common.{◌<◌, ◌≤◌, List, None, length, ap, ◌∙◌, arith}
use Rattle.std.proofs.lemmas.List.{length-set}
use Rattle.nomos_slots.specs.Cells.{Cell, cell_at}
use Rattle.nomos_slots.proofs.FillLemmas.{empty-more, empty-whole}
use Rattle.nomos_slots.proofs.cells.empty_all.Goals as goal

pub loop-at-preserved : goal.loop-at-preserved
loop-at-preserved c =
    let cells = c.loop-at.cells.now in
    let at = c.loop-at.at in
    let inv = c.loop-at.invariant in
    let within : at < length cells = omega (arith, c.len-at-end.ensures, inv.len) in
    record {
      len = ap length c.empty_at.ensures.now ∙ length-set cells at None ∙ inv.len;
      empty = λ place before.
          ap (λ (cs : List Cell). cell_at cs place) c.empty_at.ensures.now ∙ empty-more cells at within inv.empty place
          before;
      seats = c.empty_at.ensures.seats ∙ inv.seats;
      marked = c.empty_at.ensures.marked ∙ inv.marked;
    }

pub returns-clause-empty : goal.returns-clause-empty
returns-clause-empty c =
    let past : length c.loop-at.cells.now ≤ c.loop-at.at =
    omega (arith, c.len-at-end.ensures, c.loop-at.invariant.len) in
    empty-whole c.loop-at.cells.now c.loop-at.at past c.loop-at.invariant.empty
