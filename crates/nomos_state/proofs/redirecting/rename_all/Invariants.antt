use Rattle.std.proofs.Common.{◌≡◌}
use Rattle.nomos_machine.specs.Revised.{renamed}
use Rattle.nomos_slots.proofs.ChangedLaws.{changed_first}
use Rattle.nomos_state.proofs.redirecting.rename_all.Given as goal

abbrev pub invariant-loop-at : goal.invariant-loop-at
invariant-loop-at l = record {
  now : l.names.now ≡ changed_first (renamed l.old l.new) l.at l.fn.names.now;
  marked : l.names.marked ≡ l.fn.names.marked;
  seats : l.names.seats ≡ l.fn.names.seats;
}
