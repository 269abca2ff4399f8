use Rattle.std.proofs.Common.{◌≡◌, ◌++◌}
use Rattle.std.specs.Vec.Iter.{into_iter_items}
use Rattle.nomos_pool.specs.Hands.{AreEmptyHands}
use Rattle.nomos_pool.proofs.gathering.empty_hands.Given as goal

-- the senders that went by have their hands
abbrev pub invariant-loop-sender : goal.invariant-loop-sender
invariant-loop-sender g l = record {
  rest : l.yielded ++ into_iter_items l.sender-iterator ≡ l.fn.senders.items;
  hands : AreEmptyHands l.yielded l.hands.items;
}
