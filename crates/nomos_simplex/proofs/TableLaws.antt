-- The tables of the run: the rows make their lines true, and these make the rows' sums true.
use Rattle.std.proofs.Common.{◌≡◌, ℕ, ◌+◌, ◌<◌, ◌^◌, ◌||◌, Bool, true, false, List, length, get_or, sym, ◌∙◌, arith, ℤ, pos, unsigned_abs, All, ⊎_elim}
use Rattle.std.specs.List.{list_any, list_all}
use Rattle.std.proofs.lemmas.Bool.{lt-leb, leb-false, cases_Bool, or_parts, false≢true}
use Rattle.std.proofs.lemmas.List.{length-set}
use Rattle.std.proofs.lemmas.List.Elements.{All-weaker}
use Rattle.std.proofs.lemmas.List.FromFn.{length-range_with_len}
use Rattle.std.proofs.lemmas.List.Folds.{list_any_none, list_any_at, list_all_at}
use borrow.Author.Differences.{below_in}
use Rattle.nomos_forms.specs.Bounds.{IsSmall}
use Rattle.nomos_forms.specs.declared.row_list.RowList.{RowList}
use Rattle.nomos_simplex.specs.Exchange.{exchanged, is_large, is_large_line, is_large_table}
use Rattle.nomos_simplex.specs.Sizes.{IsLowest, IsTable}
use Rattle.nomos_simplex.specs.Tables.{Holds, lines_from, first_table}
use Rattle.nomos_simplex.specs.declared.table.TableLine.{TableLine}
use Rattle.nomos_simplex.specs.declared.table.Table.{Table}
use Rattle.nomos_simplex.proofs.AmountLemmas.{AreOverZero}
use Rattle.nomos_simplex.proofs.DivisorLemmas.{common_one}
use Rattle.nomos_simplex.proofs.ExchangedLemmas.{IsLineIn, MayExchange, exchanged_holds, held_before_exchange, exchanged_lines, exchanged_lowest}
use Rattle.nomos_simplex.proofs.FirstLemmas.{All-lines_from}
use Rattle.nomos_simplex.proofs.VariableLemmas.{HasEachOnce, first-has_each_once, exchanged-has_each_once, nonbasic-is_variable, basic-is_variable}

-- ---- small numbers
no_large : (z : ℤ) → unsigned_abs z < 2 ^ 62 → is_large z ≡ false
no_large z h = lt-leb (2 ^ 62) (unsigned_abs z) h

neither : (x y : Bool) → x ≡ false → y ≡ false → (x || y) ≡ false
neither true y h i = h
neither false y h i = i

pub all_false : {X : Type 0} (p : X → Bool) (xs : List X) → list_any p xs ≡ false → All (λ x. p x ≡ false) xs
all_false p xs h k d l = ⊎_elim (λ yes. absurd (false≢true (sym h ∙ list_any_at p xs k d l yes))) (λ no. no)
    (cases_Bool (p (get_or xs k d)))

pub all_true : {X : Type 0} (p : X → Bool) (xs : List X) → list_all p xs ≡ true → All (λ x. p x ≡ true) xs
all_true p xs h k d l = ⊎_elim (λ yes. yes) (λ no. absurd (false≢true (sym (list_all_at p xs k d l no) ∙ h)))
    (cases_Bool (p (get_or xs k d)))

pub record IsSmallLine (line : TableLine) : Type 0 where
  pub times : unsigned_abs line.times < 2 ^ 62
  pub coefs : All (λ c. unsigned_abs c < 2 ^ 62) line.coefs

pub small_line : (line : TableLine) → is_large_line line ≡ false → IsSmallLine line
small_line line h =
    let both = or_parts (is_large line.times) (list_any is_large line.coefs) h in
    record {
      times = leb-false (2 ^ 62) (unsigned_abs line.times) both.0;
      coefs = All-weaker (λ c. is_large c ≡ false) (λ c. unsigned_abs c < 2 ^ 62)
          (λ c no. leb-false (2 ^ 62) (unsigned_abs c) no) line.coefs (all_false is_large line.coefs both.1);
    }

first_small : (rows : RowList) → is_large_table (first_table rows) ≡ false
first_small rows = list_any_none is_large_line (lines_from (rows.stars + 1) rows.rows)
    (All-lines_from (λ line. is_large_line line ≡ false) (rows.stars + 1) rows.rows
    (λ k e h. neither (is_large (pos 1)) (list_any is_large (get_or rows.rows k e).coefs)
    (no_large (pos 1) (omega arith))
    (list_any_none is_large (get_or rows.rows k e).coefs
    (All-weaker IsSmall (λ c. is_large c ≡ false) (λ c s. no_large c (omega arith)) (get_or rows.rows k e).coefs
    (rows.each k e h).coefs))))

-- ---- the tables of the run
-- What the variables have makes the lines of the table true exactly where it makes those of the first table true. Each
-- variable stands in it once, and its numbers are as in every table of the run.
pub record IsTableOfRows (rows : RowList) (table : Table) : Type 0 where
  pub true_of : (y : ℕ → ℤ) → Holds y (first_table rows) → Holds y table
  pub true_of_rows : (y : ℕ → ℤ) → Holds y table → Holds y (first_table rows)
  pub stars : length table.nonbasic ≡ rows.stars
  pub lines : All (IsLineIn table) table.lines
  pub lowest : All IsLowest table.lines
  pub each_once : HasEachOnce rows table
  pub small : is_large_table table ≡ false

pub are_over_zero : (rows : RowList) (table : Table) → IsTableOfRows rows table → AreOverZero table
are_over_zero rows table t k d l = let line = t.lines k d l in line.over

pub first-is_table : (rows : RowList) → IsTableOfRows rows (first_table rows)
first-is_table rows = record {
  true_of = λ y h. h;
  true_of_rows = λ y h. h;
  stars = length-range_with_len 1 rows.stars;
  lines = All-lines_from (IsLineIn (first_table rows)) (rows.stars + 1) rows.rows
      (λ k e h. record {
        width = (rows.each k e h).width ∙ sym (length-range_with_len 1 rows.stars);
        over = below_in (pos 0) (pos 1) (omega arith);
      });
  lowest = All-lines_from IsLowest (rows.stars + 1) rows.rows (λ k e h. common_one (get_or rows.rows k e).coefs);
  each_once = first-has_each_once rows;
  small = first_small rows;
}

pub exchanged-is_table : (rows : RowList) (i j : ℕ) (left : TableLine) (table : Table) → MayExchange i j left table →
    is_large_table (exchanged i j left table) ≡ false → IsTableOfRows rows table →
    IsTableOfRows rows (exchanged i j left table)
exchanged-is_table rows i j left table m s t = record {
  true_of = λ y h. exchanged_holds y i j left table m (t.true_of y h);
  true_of_rows = λ y h. t.true_of_rows y (held_before_exchange y i j left table m h);
  stars = length-set table.nonbasic j left.basic ∙ t.stars;
  lines = exchanged_lines i j left table m;
  lowest = exchanged_lowest i j left table m;
  each_once = exchanged-has_each_once rows i j left table m t.each_once;
  small = s;
}

-- how large its numbers are
pub table-is_table : (rows : RowList) (table : Table) → IsTableOfRows rows table → IsTable rows table
table-is_table rows table t = record {
  width = t.stars;
  nonbasic = nonbasic-is_variable rows table t.each_once;
  basic = basic-is_variable rows table t.each_once;
  lines = λ k d l.
      let small = small_line (get_or table.lines k d) (all_false is_large_line table.lines t.small k d l) in
      let line = t.lines k d l in
      record { width = line.width ∙ t.stars; times = small.times; positive = line.over; coefs = small.coefs };
  lowest = t.lowest;
}

-- ---- the lines are identities
