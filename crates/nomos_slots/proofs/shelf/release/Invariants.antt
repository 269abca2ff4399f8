use Rattle.std.proofs.Common.{◌≡◌, drop}
use Rattle.std.specs.Vec.{vec_len, vec_capacity}
use Rattle.nomos_slots.specs.Rows.{IsCovered, rows_of, spares_of}
use Rattle.nomos_slots.proofs.shelf.release.Given as goal

abbrev pub invariant-loop-step : goal.invariant-loop-step
invariant-loop-step g l = record {
  rows : rows_of l.rows.items ≡ rows_of l.fn.rows.items;
  spares : spares_of l.rows.items ≡ spares_of l.fn.rows.items;
  covered : IsCovered l.rows.items (drop l.step-index l.log);
  len : vec_len l.rows ≡ vec_len l.fn.rows;
  capacity : vec_capacity l.rows ≡ vec_capacity l.fn.rows;
}
