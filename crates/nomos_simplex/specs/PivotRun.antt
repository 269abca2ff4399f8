-- The run of exchanges, up to its first exit.
use Rattle.std.specs.Prelude.{ℕ, zero, suc, ◌+◌, Option, Some, None, slice_get, if◌then◌else◌}
use Rattle.nomos_forms.specs.declared.row_list.RowList.{RowList}
use Rattle.nomos_simplex.specs.Exchange.{exchanged, is_large_table}
use Rattle.nomos_simplex.specs.Exits.{fractions, found_or_large, verdict_of}
use Rattle.nomos_simplex.specs.LowestVariable.{leaving, entering}
use Rattle.nomos_simplex.specs.Tables.{first_table}
use Rattle.nomos_simplex.specs.declared.solved.Solved.{Solved}
use Rattle.nomos_simplex.specs.declared.solved.Solved.TheVariants as solved
use Rattle.nomos_simplex.specs.declared.solved.Stop.TheVariants as stop
use Rattle.nomos_simplex.specs.declared.table.TableLine.{TableLine}
use Rattle.nomos_simplex.specs.declared.table.Table.{Table}
use Rattle.nomos_simplex.specs.declared.turn.PivotTurn.{PivotTurn}
use Rattle.nomos_simplex.specs.declared.turn.PivotTurn.TheVariants.{Ends, Goes}

-- where a number is too large, the run stops after these pivots
abbrev pub small_or_large : ℕ → Table → PivotTurn
small_or_large pivots table = if is_large_table table then Ends (solved.Unsolved (stop.Large pivots)) else Goes table

-- after this many pivots the line i is to be left, for column j, with so many pivots left to make
abbrev pub turn_to : ℕ → ℕ → ℕ → TableLine → Table → ℕ → PivotTurn
turn_to zero pivots i line table j = Ends (solved.Unsolved stop.Pivots)
turn_to (suc budget) pivots i line table j = small_or_large (pivots + 1) (exchanged i j line table)

abbrev pub turn_at : ℕ → ℕ → RowList → Table → ℕ → TableLine → Option ℕ → PivotTurn
turn_at budget pivots rows table i line None = Ends (solved.Refuted (verdict_of rows table line))
turn_at budget pivots rows table i line (Some j) = turn_to budget pivots i line table j

abbrev pub turn_on : ℕ → ℕ → RowList → Table → ℕ → Option TableLine → PivotTurn
turn_on budget pivots rows table i None = Ends (found_or_large pivots (fractions rows table))
turn_on budget pivots rows table i (Some line) = turn_at budget pivots rows table i line (entering table line)

abbrev pub turn_from : ℕ → ℕ → RowList → Table → Option ℕ → PivotTurn
turn_from budget pivots rows table None = Ends (found_or_large pivots (fractions rows table))
turn_from budget pivots rows table (Some i) = turn_on budget pivots rows table i (slice_get table.lines i)

-- what comes at a table, after this many pivots and with so many left to make
abbrev pub turn : ℕ → ℕ → RowList → Table → PivotTurn
turn budget pivots rows table = turn_from budget pivots rows table (leaving rows table)

-- and then
abbrev pub end_of : PivotTurn → (Table → Solved) → Solved
end_of (Ends answer) go_on = answer
end_of (Goes table) go_on = go_on table

-- the answer of the run from a table on
unfoldable pub run : ℕ → ℕ → RowList → Table → Solved
run zero pivots rows table = end_of (turn zero pivots rows table) (λ _. solved.Unsolved stop.Pivots)
run (suc budget) pivots rows table = end_of (turn (suc budget) pivots rows table) (run budget (pivots + 1) rows)

-- the answer to rows, with a budget of 2,000 pivots
abbrev pub answer_to : RowList → Solved
answer_to rows = run 2000 0 rows (first_table rows)
