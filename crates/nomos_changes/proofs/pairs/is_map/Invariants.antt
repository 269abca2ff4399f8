-- From the pair before this place on, the pairs are a map.
use Rattle.std.proofs.Common.{◌≡◌, ◌≤◌, ◌-◌, length, drop}
use Rattle.nomos_ir.specs.Bindings.{bindings_of}
use Rattle.nomos_changes.proofs.pairs.is_map.Given as goal

abbrev pub invariant-loop-at : goal.invariant-loop-at
invariant-loop-at g l = record {
  within : l.at ≤ length l.pairs;
  map : bindings_of (drop (l.at - 1) l.pairs) ≡ drop (l.at - 1) l.pairs;
}

abbrev pub decreases-loop-at : goal.decreases-loop-at
decreases-loop-at g l = l.at
