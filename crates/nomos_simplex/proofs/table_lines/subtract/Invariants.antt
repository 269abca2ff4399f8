use Rattle.std.proofs.Common.{◌≡◌, ◌++◌, ◌-◌, ◌≤◌, pos, take, drop, length, All, IsTrue}
use Rattle.nomos_simplex.specs.Exchange.{eliminated}
use Rattle.nomos_simplex.specs.Sizes.{IsNumber}
use Rattle.nomos_simplex.proofs.table_lines.subtract.Given as goal

-- the first columns are made, those behind are as they were
abbrev pub invariant-loop-i : goal.invariant-loop-i
invariant-loop-i l = record {
  value : l.of ≡ eliminated (pos 1) l.g (take l.i l.fn.of) (take l.i l.by) ++ drop l.i l.fn.of;
  within : l.i ≤ length l.fn.of;
  small : IsTrue l.small → All IsNumber l.of;
}

abbrev pub decreases-loop-i : goal.decreases-loop-i
decreases-loop-i l = length l.initial.of - l.i
