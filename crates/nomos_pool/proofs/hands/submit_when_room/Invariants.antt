use Rattle.std.proofs.Common.{◌≡◌}
use Rattle.nomos_pool.specs.PoolPass.{IsSenderOf, submitted_by}
use Rattle.nomos_pool.proofs.hands.submit_when_room.Given as goal

-- nothing was submitted yet
abbrev pub invariant-loop : goal.invariant-loop
invariant-loop g l = record {
  sender : IsSenderOf l.pool l.sender;
  number : l.sender.number ≡ l.fn.sender.number;
  submitted : submitted_by l.sender ≡ submitted_by l.fn.sender;
  item : l.item ≡ l.fn.item;
}
