-- The tables and goal's lines of the least run: what holds of each.
use Rattle.std.proofs.Common.{◌≡◌, ℕ, ◌-◌, ◌≤◌, true, false, length, get_or, set, sym, subst, ◌∙◌, arith, ℤ, pos, ◌<ℤ◌, ◌≤ℤ◌, int_lt, All, Some, None}
use Rattle.std.specs.List.{range_with_len}
use Rattle.std.proofs.lemmas.Int.{ints}
use Rattle.std.proofs.lemmas.Bool.{or_parts}
use Rattle.std.proofs.lemmas.List.{length-set}
use Rattle.std.proofs.lemmas.Option.{get_or_from_slice_get}
use borrow.Author.Differences.{lt_out, below_in, lt-true}
use Rattle.nomos_forms.specs.Bounds.{IsForm}
use Rattle.nomos_forms.specs.declared.form.Form.{Form}
use Rattle.nomos_forms.specs.declared.row_list.RowList.{RowList}
use Rattle.nomos_simplex.specs.Exchange.{coef_at, put_into, exchanged, is_large_line, is_large_table}
use Rattle.nomos_simplex.specs.LeastRun.{PivotsTo, Exchanges, Lowers, line_exchanged, is_large_with}
use Rattle.nomos_simplex.specs.Nearest.{lowering, nearest, is_nearer, line_at}
use Rattle.nomos_simplex.specs.Sizes.{IsLine}
use Rattle.nomos_simplex.specs.Tables.{sum_at, HoldsAt, Holds, first_table}
use Rattle.nomos_simplex.specs.declared.table.TableLine.{TableLine}
use Rattle.nomos_simplex.specs.declared.table.Table.{Table}
use Rattle.nomos_simplex.proofs.AmountLemmas.{NoneBelow}
use Rattle.nomos_simplex.proofs.BoundedLemmas.{some_nearest}
use Rattle.nomos_simplex.proofs.ExchangeLemmas.{HoldsFor, lowest_holds_for, lowest_over_zero, lowest-is_lowest, lowest_width, put_holds_for, put_width}
use Rattle.nomos_simplex.proofs.ExchangedLemmas.{at_place, column_of, left_of, put_not_zero}
use Rattle.nomos_simplex.proofs.ExitLemmas.{none_below}
use Rattle.nomos_simplex.proofs.GoalLineLemmas.{IsGoalLine, goal_line-holds, goal_line-numbers}
use Rattle.nomos_simplex.proofs.PlaceLemmas.{place_passes, foremost_passes}
use Rattle.nomos_simplex.proofs.RatioLemmas.{IsLowered, lowered-none_below}
use Rattle.nomos_simplex.proofs.RunLaws.{turn-goes_on}
use Rattle.nomos_simplex.proofs.TableLaws.{IsTableOfRows, first-is_table, exchanged-is_table, table-is_table, small_line}

-- ---- the pivot run
pub reached-is_table : (rows : RowList) (pivots : ℕ) (table : Table) → PivotsTo rows pivots table
    → IsTableOfRows rows table
reached-is_table rows pivots table PivotsTo.at_first = first-is_table rows
reached-is_table rows pivots table (PivotsTo.goes_on {pivots = before} {table = earlier} after r e) =
    turn-goes_on (2000 - before) before rows earlier after (reached-is_table rows before earlier r) e

-- ---- the least run
pub record IsAimed (rows : RowList) (goal : Form) (table : Table) (line : TableLine) : Type 0 where
  pub of_rows : IsTableOfRows rows table
  pub none : NoneBelow rows table
  pub numbers : IsGoalLine table line
  pub holds : (y : ℕ → ℤ) → Holds y (first_table rows) →
      HoldsFor (sum_at y (range_with_len 1 rows.stars) goal.coefs) y table.nonbasic line

below_zero : (c : ℤ) → int_lt c (pos 0) ≡ true → c <ℤ pos 0
below_zero c e = below_in c (pos 0) (lt-true c (pos 0) e)

not_zero_under : (c : ℤ) → c <ℤ pos 0 → ¬ (c ≡ pos 0)
not_zero_under c h e = omega (arith, ints, lt_out c (pos 0) h)

-- an exchange of the least run is one of a coefficient below 0
pub lowered_of : (rows : RowList) (table : Table) (line : TableLine) (i j : ℕ) (left : TableLine)
    → IsTableOfRows rows table →
    Exchanges rows table line i j left → IsLowered rows table i j left
lowered_of rows table line i j left t x =
    let column =
    place_passes (λ n. int_lt (get_or line.coefs n (pos 0)) (pos 0)) (λ n. get_or table.nonbasic n 0)
    (length table.nonbasic) j x.column in
    let place =
    foremost_passes (λ n. int_lt (coef_at j (line_at table.lines n)) (pos 0))
    (λ n m. is_nearer rows table.nonbasic j (line_at table.lines n) (line_at table.lines m)) (length table.lines) i
    x.place in
    let is : line_at table.lines i ≡ left = get_or_from_slice_get table.lines i left _ x.there in
    let under = subst (λ (l : TableLine). coef_at j l <ℤ pos 0) is
    (below_zero (coef_at j (line_at table.lines i)) place.1) in
    record {
      may = record {
        place = x.there;
        column = column.0;
        coef = not_zero_under (coef_at j left) under;
        lines = t.lines;
      };
      under = under;
      nearest = x.place;
    }

aimed_after : (rows : RowList) (goal : Form) (table : Table) (line : TableLine) (i j : ℕ) (left : TableLine) →
    IsAimed rows goal table line → Exchanges rows table line i j left →
    is_large_with (exchanged i j left table) (line_exchanged j left line) ≡ false →
    IsAimed rows goal (exchanged i j left table) (line_exchanged j left line)
aimed_after rows goal table line i j left a x large =
    let t = a.of_rows in
    let m = lowered_of rows table line i j left t x in
    let both = or_parts (is_large_table (exchanged i j left table)) (is_large_line (line_exchanged j left line))
    large in
    let own = left_of i j left table m.may in
    let column = column_of i j left table m.may in
    let width = a.numbers.fits.width ∙ sym own.width in
    let n = put_not_zero j left line m.may.coef a.numbers.fits.over in
    record {
      of_rows = exchanged-is_table rows i j left table m.may both.0 t;
      none = lowered-none_below rows table i j left m a.none;
      numbers = record {
        fits = record {
          width = lowest_width (put_into j left line) ∙ put_width j left line width ∙ a.numbers.fits.width
              ∙ sym (length-set table.nonbasic j left.basic);
          over = lowest_over_zero (put_into j left line) n;
        };
        lowest = lowest-is_lowest (put_into j left line) n;
        small = both.1;
      };
      holds = λ y h.
          let w = sum_at y (range_with_len 1 rows.stars) goal.coefs in
          (lowest_holds_for w y (set table.nonbasic j left.basic) (put_into j left line) n).1
          ((put_holds_for w y table.nonbasic j left line m.may.column column width m.may.coef
          (at_place (HoldsAt y table.nonbasic) table.lines i left m.may.place (t.true_of y h))).1 (a.holds y h));
    }

-- each table and goal's line that the least run comes to
pub aimed : (rows : RowList) (goal : Form) (pivots : ℕ) (table : Table) (line : TableLine) → IsForm rows.stars goal →
    Lowers rows goal pivots table line → IsAimed rows goal table line
aimed rows goal pivots table line f (Lowers.begins ends e) =
    let t = reached-is_table rows pivots table ends.reaches in
    record {
      of_rows = t;
      none = none_below rows table ends.none_below;
      numbers = goal_line-numbers rows table goal line t e;
      holds = λ y h. goal_line-holds y rows table goal line t f.width (t.true_of y h) e;
    }
aimed rows goal pivots table line f
    (Lowers.goes_on {pivots = before} {table = earlier} {line = own} i j left l x most large) =
    aimed_after rows goal earlier own i j left (aimed rows goal before earlier own f l) x large

-- where a variable enters, another one leaves
pub one_leaves : (rows : RowList) (goal : Form) (table : Table) (line : TableLine) (j : ℕ)
    → IsAimed rows goal table line →
    All (λ c. pos 0 ≤ℤ c) goal.coefs → lowering table line ≡ Some j → ¬ (nearest rows table j ≡ None)
one_leaves rows goal table line j a high e none =
    let column =
    place_passes (λ n. int_lt (get_or line.coefs n (pos 0)) (pos 0)) (λ n. get_or table.nonbasic n 0)
    (length table.nonbasic) j e in
    some_nearest rows table j line goal.coefs a.of_rows column.0 a.numbers.fits.width a.numbers.fits.over high a.holds
    (below_zero (coef_at j line) column.1) none

-- how large the numbers of the goal's line are
pub line-is_line : (rows : RowList) (goal : Form) (table : Table) (line : TableLine) → IsAimed rows goal table line →
    IsLine (length table.nonbasic) line
line-is_line rows goal table line a =
    let small = small_line line a.numbers.small in
    record {
      width = a.numbers.fits.width;
      times = small.times;
      positive = a.numbers.fits.over;
      coefs = small.coefs;
    }

-- ---- how large its tables are
