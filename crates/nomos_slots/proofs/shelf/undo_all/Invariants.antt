use Rattle.std.proofs.Common.{◌≡◌, ◌<◌, All}
use Rattle.std.specs.Vec.{vec_len, vec_capacity}
use Rattle.nomos_slots.specs.Rows.{IsCovered, place_of, rows_of, undo}
use Rattle.nomos_slots.proofs.shelf.undo_all.Given as goal

abbrev pub invariant-loop-step : goal.invariant-loop-step
invariant-loop-step g l = record {
  rows : undo l.log.items (rows_of l.rows.items) ≡ undo l.fn.log.items (rows_of l.fn.rows.items);
  below : All (λ step. place_of step < vec_len l.fn.rows) l.log.items;
  covered : IsCovered l.rows.items l.log.items;
  len : vec_len l.rows ≡ vec_len l.fn.rows;
  capacity : vec_capacity l.rows ≡ vec_capacity l.fn.rows;
  log_capacity : vec_capacity l.log ≡ vec_capacity l.fn.log;
}

abbrev pub decreases-loop-step : goal.decreases-loop-step
decreases-loop-step g l = vec_len l.log
