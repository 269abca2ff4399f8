use Rattle.std.proofs.Common.{◌≡◌, ℕ, true, drop}
use Rattle.std.specs.Vec.{vec_len, vec_capacity}
use Rattle.nomos_slots.specs.Log.{is_kept, is_logged, put_back, records}
use Rattle.nomos_slots.proofs.column.put_back.Given as goal

abbrev pub invariant-loop-saved : goal.invariant-loop-saved
invariant-loop-saved g l = record {
  records : put_back (records l.items.items) (drop l.saved-index l.log) ≡ put_back (records l.fn.items.items) l.log;
  kept : (place : ℕ) → is_kept l.items.items place ≡ true → is_logged (drop l.saved-index l.log) place ≡ true;
  len : vec_len l.items ≡ vec_len l.fn.items;
  capacity : vec_capacity l.items ≡ vec_capacity l.fn.items;
}
