use Rattle.std.proofs.Common.{All, take}
use Rattle.nomos_pool.specs.Pooled.{IsSingle}
use Rattle.nomos_pool.proofs.pooled.first_other.Given as goal

-- the first items are single lines
abbrev pub invariant-loop-item : goal.invariant-loop-item
invariant-loop-item l = All IsSingle (take l.item-index l.items)
