use Rattle.std.proofs.Common.{◌+◌, ◌-◌, length}
use Rattle.nomos_equality.specs.mirror.PairTables.{HasSameBits}
use Rattle.nomos_equality.proofs.pair_table.add_rows.Given as goal

-- the same bits are set
abbrev pub invariant-loop-alloc : goal.invariant-loop-alloc
invariant-loop-alloc l = HasSameBits l.fn.rows.items l.rows.items

abbrev pub decreases-loop-alloc : goal.decreases-loop-alloc
decreases-loop-alloc l = l.left + 1 - length l.rows.items
