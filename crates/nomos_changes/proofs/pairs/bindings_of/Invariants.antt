-- The pairs that are left, bound onto the map so far, make the whole map, and the room is enough for them.
use Rattle.std.proofs.Common.{◌≡◌, ◌≤◌, ◌+◌, vec_len}
use Rattle.std.specs.Vec.{vec_capacity}
use Rattle.nomos_ir.specs.Bindings.{bindings_of}
use Rattle.nomos_changes.proofs.PairLemmas.{bound_onto}
use Rattle.nomos_changes.proofs.pairs.bindings_of.Given as goal

abbrev pub invariant-loop-pair : goal.invariant-loop-pair
invariant-loop-pair g l = record {
  items : bound_onto l.pairs.items l.made.items ≡ bindings_of l.initial.pairs.items;
  room : vec_len l.made + vec_len l.pairs + l.more ≤ vec_capacity l.made;
}

abbrev pub decreases-loop-pair : goal.decreases-loop-pair
decreases-loop-pair g l = vec_len l.pairs
