-- Exchanges in a table with one line for each class: what is kept stands for the full table.
use Rattle.std.proofs.Common.{◌≡◌, ℕ, ◌+◌, ◌<◌, false, List, length, get_or, set, ap, sym, subst, ◌∙◌, arith, pos, Some}
use Rattle.std.specs.Prelude.{slice_get}
use Rattle.std.proofs.lemmas.List.{length-set, set-get_or}
use Rattle.std.proofs.lemmas.List.Elements.{All-set}
use Rattle.nomos_forms.specs.declared.row_list.RowList.{RowList}
use Rattle.nomos_simplex.specs.Exchange.{coef_at, exchanged, is_large_line, is_large_table}
use Rattle.nomos_simplex.specs.GoalLine.{line_of}
use Rattle.nomos_simplex.specs.Sizes.{IsVariable, IsTable}
use Rattle.nomos_simplex.specs.mirror.Classes.{IsIn, IsReached, IsKept, Fit, StandsFor, SameNumbers, AreRenamed, class_at, column_at, stepped, classes_exchanged}
use Rattle.nomos_simplex.specs.declared.classes.Classed.{Classed}
use Rattle.nomos_simplex.specs.declared.classes.Classes.{Classes}
use Rattle.nomos_simplex.specs.declared.table.TableLine.{TableLine}
use Rattle.nomos_simplex.specs.declared.table.Table.{Table}
use Rattle.nomos_simplex.proofs.ClassExchangeLemmas.{exchange-stands}
use Rattle.nomos_simplex.proofs.ClassLemmas.{no_class, in_class-is_variable, column_class, next-in}
use Rattle.nomos_simplex.proofs.ClassTableLemmas.{small-is_table, large-stands}
use Rattle.nomos_simplex.proofs.ExchangedLemmas.{MayExchange, All-exchanged, exchanged_lines, exchanged_lowest, at_place}
use Rattle.nomos_simplex.proofs.LoweringLemmas.{reached-is_table, aimed}
use Rattle.nomos_simplex.proofs.PlacesLemmas.{AtPlaces, places-set}
use Rattle.nomos_simplex.proofs.TableLaws.{IsTableOfRows, small_line, all_false}
use Rattle.nomos_simplex.proofs.VariableLemmas.{exchanged-has_each_once}

-- ---- what is kept of a table of a run
pub reached : (rows : RowList) (full : Table) → IsReached rows full → IsTableOfRows rows full
reached rows full (IsReached.by_pivots pivots r) = reached-is_table rows pivots full r
reached rows full (IsReached.by_lowering goal pivots line f l) = (aimed rows goal pivots full line f l).of_rows

pub kept-is_table : (rows : RowList) (classed : Classed) → IsKept rows classed → IsTable rows classed.kept.table
kept-is_table rows classed k =
    small-is_table rows classed.kept.table classed.classes k.full (reached rows k.full k.reached) k.shows.stands

-- ---- an exchange in it
pub may_exchange : (rows : RowList) (i j : ℕ) (left : TableLine) (table : Table) → IsTable rows table →
    slice_get table.lines i ≡ Some left → j < length table.nonbasic → ¬ (coef_at j left ≡ pos 0) →
    MayExchange i j left table
may_exchange rows i j left table t at l n = record {
  place = at;
  column = l;
  coef = n;
  lines = λ k d h. let line = t.lines k d h in record { width = line.width ∙ sym t.width; over = line.positive };
}

-- it is a table again, where no number is too large
pub exchanged-is_small_table : (rows : RowList) (i j : ℕ) (left : TableLine) (table : Table) → IsTable rows table →
    MayExchange i j left table → is_large_table (exchanged i j left table) ≡ false →
    IsTable rows (exchanged i j left table)
exchanged-is_small_table rows i j left table t m s =
    let after = exchanged i j left table in
    let width = length-set table.nonbasic j left.basic ∙ t.width in
    let own : IsVariable rows left.basic = at_place (λ line. IsVariable rows line.basic) table.lines i left m.place
    t.basic in
    let lines = exchanged_lines i j left table m in
    let smalls = all_false is_large_line after.lines s in
    record {
      width = width;
      nonbasic = All-set (IsVariable rows) table.nonbasic j left.basic own t.nonbasic;
      basic = All-exchanged (λ line. IsVariable rows line.basic) i j left table t.basic (t.nonbasic j 0 m.column);
      lines = λ k d h.
          let small = small_line (get_or after.lines k d) (smalls k d h) in
          let line = lines k d h in
          record { width = line.width ∙ width; times = small.times; positive = line.over; coefs = small.coefs };
      lowest = exchanged_lowest i j left table m;
    }

-- the variable that follows the one of a column in its class takes its place
pub stepped-is_table : (rows : RowList) (j : ℕ) (table : Table) (classes : Classes) → IsTable rows table →
    Fit rows table classes → j < length table.nonbasic → column_at table j < (class_at classes.columns j).last →
    IsTable rows (stepped j table)
stepped-is_table rows j table classes t f l less =
    record {
      width = length-set table.nonbasic j (column_at table j + 1) ∙ t.width;
      nonbasic = All-set (IsVariable rows) table.nonbasic j (column_at table j + 1)
          (in_class-is_variable rows (class_at classes.columns j) (column_at table j + 1)
          (column_class rows table classes j f l) (next-in rows table classes j f l less)) t.nonbasic;
      basic = t.basic;
      lines = t.lines;
      lowest = t.lowest;
    }

pub stepped-fits : (rows : RowList) (j : ℕ) (table : Table) (classes : Classes) → Fit rows table classes →
    j < length table.nonbasic → column_at table j < (class_at classes.columns j).last →
    Fit rows (stepped j table) classes
stepped-fits rows j table classes f l less =
    let class = class_at classes.columns j in
    let next = column_at table j + 1 in
    let own = f.nonbasic j l in
    record {
      lines = f.lines;
      columns = f.columns ∙ sym (length-set table.nonbasic j next);
      of_lines = f.of_lines;
      of_columns = f.of_columns;
      basic = f.basic;
      nonbasic = subst (λ cs. AtPlaces no_class 0 IsIn cs (set table.nonbasic j next))
          (set-get_or classes.columns j no_class)
          (places-set no_class 0 IsIn classes.columns table.nonbasic j class next f.columns
          (record { from = omega (arith, own.from); to = omega (arith, less) }) f.nonbasic);
      cover = f.cover;
    }

-- ---- lines that get other variables of their classes
module _ (rows : RowList) (table made : Table) (classes : Classes) (e : made.nonbasic ≡ table.nonbasic)
    (r : AreRenamed classes.lines table.lines made.lines) where
  pub fit-renamed : Fit rows table classes → Fit rows made classes
  fit-renamed f = record {
    lines = f.lines ∙ sym r.long;
    columns = f.columns ∙ ap length (sym e);
    of_lines = f.of_lines;
    of_columns = f.of_columns;
    basic = λ i l. r.is_in i (omega (arith, r.long, l));
    nonbasic = subst (λ (vs : List ℕ). (j : ℕ) → j < length vs → IsIn (class_at classes.columns j) (get_or vs j 0))
        (sym e) f.nonbasic;
    cover = f.cover;
  }

  pub stands-renamed : (full : Table) → StandsFor rows table classes full → StandsFor rows made classes full
  stands-renamed full s = record {
    fit = fit-renamed s.fit;
    nonbasic = e ∙ s.nonbasic;
    lines = λ i v l is.
        let same = r.same i (omega (arith, r.long, l)) in
        let numbers = s.lines i v (omega (arith, r.long, l)) is in
        record { times = same.times ∙ numbers.times; coefs = same.coefs ∙ numbers.coefs };
    columns = subst (λ (vs : List ℕ). (j v : ℕ) → j < length vs → IsIn (class_at classes.columns j) v →
        SameNumbers (line_of full (get_or vs j 0)) (line_of full v)) (sym e) s.columns;
  }

-- ---- the full table is exchanged, too
module _ (rows : RowList) (i k j : ℕ) (left : TableLine) (table : Table) (classes : Classes) (full : Table)
    (of_rows : IsTableOfRows rows full) (stands : StandsFor rows table classes full)
    (at : slice_get full.lines k ≡ Some left) (own : slice_get table.lines i ≡ Some left)
    (column : j < length table.nonbasic) (not_zero : ¬ (coef_at j left ≡ pos 0)) where
  pub may_exchange_full : MayExchange k j left full
  may_exchange_full = record {
    place = at;
    column = subst (λ (vs : List ℕ). j < length vs) stands.nonbasic column;
    coef = not_zero;
    lines = of_rows.lines;
  }

  pub stands_after : StandsFor rows (exchanged i j left table) (classes_exchanged i j classes) (exchanged k j left full)
  stands_after = exchange-stands rows i k j left table classes full of_rows stands may_exchange_full own

  pub large_after : is_large_table (exchanged k j left full) ≡ is_large_table (exchanged i j left table)
  large_after = sym (large-stands rows (exchanged i j left table) (classes_exchanged i j classes)
      (exchanged k j left full) stands_after
      (exchanged-has_each_once rows k j left full may_exchange_full of_rows.each_once))
