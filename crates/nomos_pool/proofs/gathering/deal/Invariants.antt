use Rattle.std.proofs.Common.{◌≡◌, ◌++◌, List, drop, length}
use Rattle.nomos_pool.specs.Hands.{AreDealt}
use Rattle.nomos_pool.proofs.gathering.deal.Given as goal

-- those that are gone are dealt
abbrev pub invariant-loop-item : goal.invariant-loop-item
invariant-loop-item g l = record {
  hands : length l.hands ≡ length l.fn.hands;
  dealt : (done : List g.row.T.Denot) × (l.fn.items.items ≡ l.items.items ++ done)
      × AreDealt (drop (length l.items.items) l.threads) done l.fn.hands l.hands;
}

abbrev pub decreases-loop-item : goal.decreases-loop-item
decreases-loop-item g l = length l.items.items
