use Rattle.std.proofs.Common.{◌≡◌, ℕ, ◌<◌, ◌≤◌, length, pos, ◌+ℤ◌, ◌*ℤ◌}
use Rattle.std.specs.Prelude.{slice_index_or}
use Rattle.nomos_simplex.specs.Exchange.{coef_at}
use Rattle.nomos_simplex.specs.Nearest.{line_at}
use Rattle.nomos_simplex.proofs.turning.raise.Given as goal

-- those so far are risen, and the others as before
abbrev pub invariant-loop-i : goal.invariant-loop-i
invariant-loop-i l = record {
  long : length l.over ≡ length l.fn.over;
  done : (k : ℕ) → k < l.i → slice_index_or l.over k (pos 0) ≡ slice_index_or l.fn.over k (pos 0) +ℤ coef_at l.column
      (line_at l.lines k) *ℤ l.rise;
  rest : (k : ℕ) → l.i ≤ k → slice_index_or l.over k (pos 0) ≡ slice_index_or l.fn.over k (pos 0);
}
