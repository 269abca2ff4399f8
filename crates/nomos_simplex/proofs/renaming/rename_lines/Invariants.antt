use Rattle.std.proofs.Common.{◌≡◌, ℕ, ◌<◌, List, length, map, All}
use Rattle.nomos_simplex.specs.Nearest.{line_at}
use Rattle.nomos_simplex.specs.Sizes.{IsLine}
use Rattle.nomos_simplex.specs.Tables.{bound_of}
use Rattle.nomos_simplex.specs.mirror.Classes.{IsIn, IsLead, SameNumbers, class_at}
use Rattle.nomos_simplex.specs.mirror.Keeping.{over_of}
use Rattle.nomos_simplex.proofs.renaming.rename_lines.Given as goal

-- the lines so far have the variables that stand for their classes
abbrev pub invariant-loop-i : goal.invariant-loop-i
invariant-loop-i l = record {
  long : length l.lines ≡ length l.fn.lines;
  over_long : length l.over ≡ length l.fn.lines;
  are_lines : All (IsLine (length l.bounds)) l.lines;
  same : (k : ℕ) → k < length l.fn.lines → SameNumbers (line_at l.lines k) (line_at l.fn.lines k);
  is_in : (k : ℕ) → k < length l.fn.lines → IsIn (class_at l.classes k) (line_at l.lines k).basic;
  over : (nonbasic : List ℕ) → l.bounds ≡ map (bound_of l.rows) nonbasic →
      l.fn.over ≡ map (over_of l.rows nonbasic) l.fn.lines → l.over ≡ map (over_of l.rows nonbasic) l.lines;
  lead : (nonbasic : List ℕ) → l.bounds ≡ map (bound_of l.rows) nonbasic →
      l.fn.over ≡ map (over_of l.rows nonbasic) l.fn.lines → (k : ℕ) → k < l.i →
      IsLead l.rows nonbasic (class_at l.classes k) (line_at l.lines k);
}
