-- The least run: it goes on where the pivot run has found amounts, and lowers a goal.
use Rattle.std.specs.Prelude.{◌≡◌, ◌+◌, ◌-◌, ◌<◌, ◌^◌, ℕ, nat_lt, ◌&&◌, ◌||◌, Bool, true, false, ℤ, pos, neg_ℤ, unsigned_abs, int_le, map, List, Some, None, slice_get, if◌then◌else◌}
use Rattle.nomos_forms.specs.Linear.{form_value}
use Rattle.nomos_forms.specs.declared.form.Form.{Form}
use Rattle.nomos_forms.specs.declared.found.Found.{Found}
use Rattle.nomos_forms.specs.declared.row_list.RowList.{RowList}
use Rattle.nomos_forms.specs.declared.verdict.Verdict.{Verdict}
use Rattle.nomos_simplex.specs.Divisors.{in_lowest_terms}
use Rattle.nomos_simplex.specs.Exchange.{put_into, exchanged, is_large_line, is_large_table}
use Rattle.nomos_simplex.specs.Exits.{fractions, found_or_large, weights_below, weight_of}
use Rattle.nomos_simplex.specs.GoalLine.{goal_line}
use Rattle.nomos_simplex.specs.LowestVariable.{leaving}
use Rattle.nomos_simplex.specs.Nearest.{lowering, nearest}
use Rattle.nomos_simplex.specs.PivotRun.{turn, answer_to}
use Rattle.nomos_simplex.specs.Tables.{first_table}
use Rattle.nomos_simplex.specs.declared.solved.Proof.{Proof}
use Rattle.nomos_simplex.specs.declared.solved.Solved.{Solved}
use Rattle.nomos_simplex.specs.declared.solved.Solved.TheVariants as solved
use Rattle.nomos_simplex.specs.declared.solved.SolvedLeast.{SolvedLeast}
use Rattle.nomos_simplex.specs.declared.solved.SolvedLeast.TheVariants as least
use Rattle.nomos_simplex.specs.declared.solved.Stop.{Stop}
use Rattle.nomos_simplex.specs.declared.solved.Stop.TheVariants as stop
use Rattle.nomos_simplex.specs.declared.table.TableLine.{TableLine}
use Rattle.nomos_simplex.specs.declared.table.Table.{Table}
use Rattle.nomos_simplex.specs.declared.turn.PivotTurn.TheVariants.{Goes}

-- ---- the runs, table by table
-- the pivot run comes to a table, after so many pivots
pub data PivotsTo (rows : RowList) : ℕ → Table → Type 0 where
  at_first : PivotsTo rows 0 (first_table rows)
  goes_on : {pivots : ℕ} {table : Table} (after : Table) → PivotsTo rows pivots table →
      turn (2000 - pivots) pivots rows table ≡ Goes after → PivotsTo rows (pivots + 1) after

-- it ends there, since no basic variable is below its bound, and what it answers is found
pub record EndsFound (rows : RowList) (pivots : ℕ) (table : Table) : Type 0 where
  pub reaches : PivotsTo rows pivots table
  pub none_below : leaving rows table ≡ None
  pub found : Found
  pub answer : answer_to rows ≡ solved.Found found

-- line i, which is left, and column j are to be exchanged, to lower the goal whose line this is
pub record Exchanges (rows : RowList) (table : Table) (line : TableLine) (i j : ℕ) (left : TableLine) : Type 0 where
  pub column : lowering table line ≡ Some j
  pub place : nearest rows table j ≡ Some i
  pub there : slice_get table.lines i ≡ Some left

-- the goal's line with the entering variable put in
abbrev pub line_exchanged : ℕ → TableLine → TableLine → TableLine
line_exchanged j left line = in_lowest_terms (put_into j left line)

-- some number of the table or of the goal's line is too large
abbrev pub is_large_with : Table → TableLine → Bool
is_large_with table line = is_large_table table || is_large_line line

-- the least run comes to a table and the goal's line, after so many pivots of both runs
pub data Lowers (rows : RowList) (goal : Form) : ℕ → Table → TableLine → Type 0 where
  begins : {pivots : ℕ} {table : Table} {line : TableLine} → EndsFound rows pivots table →
      goal_line table goal ≡ Some line → Lowers rows goal pivots table line
  goes_on : {pivots : ℕ} {table : Table} {line : TableLine} (i j : ℕ) (left : TableLine)
      → Lowers rows goal pivots table line →
      Exchanges rows table line i j left → pivots < 2000 →
      is_large_with (exchanged i j left table) (line_exchanged j left line) ≡ false →
      Lowers rows goal (pivots + 1) (exchanged i j left table) (line_exchanged j left line)

-- ---- the end, where no coefficient of the goal's line is below 0
-- the weights are the coefficients over 0
abbrev pub weights_above : List ℕ → List ℤ → List (ℕ × ℕ)
weights_above vs cs = weights_below vs (map neg_ℤ cs)

abbrev pub proof_of : RowList → Table → TableLine → ℕ → Proof
proof_of rows table line total = record {
  scale = unsigned_abs line.times;
  weights = map (weight_of rows) (weights_above table.nonbasic line.coefs);
  total = total;
}

-- a total is 0 or more, and below 2^62 parts
abbrev pub is_total : ℤ → Bool
is_total z = int_le (pos 0) z && nat_lt (unsigned_abs z) (2 ^ 62)

-- what the stars have, with the proof that the goal is least; where the amounts or the goal are too large, nothing
abbrev pub least_or_large : ℕ → RowList → Form → Table → TableLine → Solved → SolvedLeast
least_or_large pivots rows goal table line (solved.Found f) =
    if is_total (form_value f.stars f.unit goal) then
    least.Found f (proof_of rows table line (unsigned_abs (form_value f.stars f.unit goal)))
    else least.Unsolved (stop.Large pivots)
least_or_large pivots rows goal table line (solved.Refuted verdict) = least.Refuted verdict
least_or_large pivots rows goal table line (solved.Unsolved s) = least.Unsolved s

-- ---- the answer
pub data LeastRun (rows : RowList) (goal : Form) : SolvedLeast → Type 0 where
  -- the pivot run's own answer, where that is no amounts
  refuted : (verdict : Verdict) → answer_to rows ≡ solved.Refuted verdict → LeastRun rows goal (least.Refuted verdict)
  stopped : (s : Stop) → answer_to rows ≡ solved.Unsolved s → LeastRun rows goal (least.Unsolved s)
  -- a number of the goal's line is too large
  large_goal : (pivots : ℕ) (table : Table) → EndsFound rows pivots table → goal_line table goal ≡ None →
      LeastRun rows goal (least.Unsolved (stop.Large pivots))
  -- no coefficient of the goal's line is below 0
  ends : (pivots : ℕ) (table : Table) (line : TableLine) → Lowers rows goal pivots table line →
      lowering table line ≡ None →
      LeastRun rows goal (least_or_large pivots rows goal table line (found_or_large pivots (fractions rows table)))
  -- 2,000 pivots were made
  pivots_made : (table : Table) (line : TableLine) (i j : ℕ) (left : TableLine) → Lowers rows goal 2000 table line →
      Exchanges rows table line i j left → LeastRun rows goal (least.Unsolved stop.Pivots)
  -- a number is too large
  large : (pivots : ℕ) (table : Table) (line : TableLine) (i j : ℕ) (left : TableLine)
      → Lowers rows goal pivots table line →
      Exchanges rows table line i j left → pivots < 2000 →
      is_large_with (exchanged i j left table) (line_exchanged j left line) ≡ true →
      LeastRun rows goal (least.Unsolved (stop.Large (pivots + 1)))
