use Rattle.std.proofs.Common.{◌≡◌, ℕ, true, drop}
use Rattle.std.specs.Vec.{vec_len, vec_capacity}
use Rattle.nomos_slots.specs.Log.{is_kept, is_logged, records}
use Rattle.nomos_slots.proofs.column.release.Given as goal

abbrev pub invariant-loop-saved : goal.invariant-loop-saved
invariant-loop-saved g l = record {
  records : records l.items.items ≡ records l.fn.items.items;
  kept : (place : ℕ) → is_kept l.items.items place ≡ true → is_logged (drop l.saved-index l.log) place ≡ true;
  len : vec_len l.items ≡ vec_len l.fn.items;
  capacity : vec_capacity l.items ≡ vec_capacity l.fn.items;
}
