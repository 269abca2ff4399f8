use Rattle.std.proofs.Common.{◌≡◌, All, take}
use Rattle.nomos_pool.specs.Pooled.{NotSingle}
use Rattle.nomos_pool.proofs.pooled.first_single.Given as goal

-- none of the first items is a single line
abbrev pub invariant-loop-item : goal.invariant-loop-item
invariant-loop-item l = record {
  place : l.place ≡ l.item-index;
  before : All NotSingle (take l.item-index l.items);
}
