use Rattle.std.proofs.Common.{None, length, subst, sym, ap, ◌∙◌, arith}
use Rattle.std.proofs.lemmas.List.{length_push}
use Rattle.nomos_slots.proofs.FillLemmas.{AreEmpty, empty-push}
use Rattle.nomos_slots.proofs.cells.push_empty.Goals as goal

pub loop-preserved : goal.loop-preserved
loop-preserved c =
    let cells = c.loop.cells.now in
    let inv = c.loop.invariant in
    let more = length_push cells None in
    record {
      len = omega (arith, more, ap length c.push.ensures.now, inv.len);
      empty = subst AreEmpty (sym c.push.ensures.now) (empty-push cells inv.empty);
      room = omega (arith, inv.room, c.push.ensures.room);
      seats = c.push.ensures.seats ∙ inv.seats;
      marked = c.push.ensures.marked ∙ inv.marked;
    }
