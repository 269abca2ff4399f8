use Rattle.std.proofs.Common.{◌≡◌, ◌≤◌, ◌+◌, ◌-◌, ℕ, length, drop}
use Rattle.nomos_slots.specs.Cells.{name_in}
use Rattle.nomos_state.specs.ObjectsCome.{name_with}
use Rattle.nomos_state.proofs.binding.bind_pairs.Given as goal

abbrev pub invariant-loop-before : goal.invariant-loop-before
invariant-loop-before l = record {
  within : l.before ≤ length l.pairs;
  names : (p v : ℕ) → name_in l.channels.now p v
      ≡ name_with l.process (drop l.before l.pairs) p v (name_in l.fn.channels.now p v);
  marked : l.channels.marked ≡ l.fn.channels.marked;
  room : l.fn.channels.room ≤ l.channels.room + (length l.pairs - l.before);
}

abbrev pub decreases-loop-before : goal.decreases-loop-before
decreases-loop-before l = l.before
