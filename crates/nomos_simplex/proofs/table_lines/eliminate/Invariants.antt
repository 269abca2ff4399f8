use Rattle.std.proofs.Common.{◌≡◌, ◌++◌, take, drop, All, IsTrue}
use Rattle.nomos_simplex.specs.Exchange.{eliminated}
use Rattle.nomos_simplex.specs.Sizes.{IsNumber}
use Rattle.nomos_simplex.proofs.table_lines.eliminate.Given as goal

-- the first columns are made, those behind are as they were
abbrev pub invariant-loop-i : goal.invariant-loop-i
invariant-loop-i l = record {
  value : l.of ≡ eliminated l.p l.g (take l.i l.fn.of) (take l.i l.by) ++ drop l.i l.fn.of;
  small : IsTrue l.small → All IsNumber l.of;
}
