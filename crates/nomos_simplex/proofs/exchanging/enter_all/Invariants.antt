use Rattle.std.proofs.Common.{◌≡◌, ◌++◌, false, take, drop, map}
use Rattle.std.specs.List.{list_any}
use Rattle.nomos_simplex.specs.Exchange.{is_large_line}
use Rattle.nomos_simplex.specs.mirror.Keeping.{over_of, entered}
use Rattle.nomos_simplex.proofs.exchanging.enter_all.Given as goal

-- the first lines have the variable put in
abbrev pub invariant-loop-i : goal.invariant-loop-i
invariant-loop-i l = record {
  lines : l.lines ≡ map (entered l.entry) (take l.i l.fn.lines) ++ drop l.i l.fn.lines;
  over : l.over ≡ map (λ line. over_of l.fn.rows l.entry.nonbasic.items (entered l.entry line)) (take l.i l.fn.lines)
      ++ drop l.i l.fn.over;
  small : list_any is_large_line (map (entered l.entry) (take l.i l.fn.lines)) ≡ false;
}
