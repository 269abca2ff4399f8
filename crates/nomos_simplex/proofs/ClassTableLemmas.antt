-- A table with one line for each class, and the one that it stands for, have the same amounts.
use Rattle.std.proofs.Common.{◌≡◌, ◌==◌, ℕ, ◌+◌, ◌<◌, ◌≤◌, Bool, true, false, ◌||◌, List, [], ◌∷◌, length, get_or, replicate, refl, ap, sym, subst, ◌∙◌, arith, ℤ, pos, ◌*ℤ◌, ◌<ℤ◌, unsigned_abs, All, Option, Some, None, find, ⊎_elim}
use Rattle.std.specs.List.{range_with_len, list_any}
use Rattle.std.proofs.lemmas.Bool.{eqb-true, eq-eqb, cases_lt}
use Rattle.std.proofs.lemmas.List.{get_or_default}
use Rattle.std.proofs.lemmas.List.Folds.{list_any_none}
use Rattle.std.proofs.lemmas.List.FromFn.{length-range_with_len, get_or-range_with_len}
use Rattle.std.proofs.lemmas.List.Elements.{All-weaker}
use Rattle.std.proofs.Math.IntN.{*ℤ-zero}
use Rattle.nomos_forms.specs.declared.form.Form.{Form}
use Rattle.nomos_forms.specs.declared.row_list.RowList.{RowList}
use Rattle.nomos_simplex.specs.Divisors.{common, in_lowest_terms}
use Rattle.nomos_simplex.specs.Exchange.{is_large, is_large_line, is_large_table}
use Rattle.nomos_simplex.specs.Exits.{fraction_in, fraction_of, fractions}
use Rattle.nomos_simplex.specs.GoalLine.{with_added, itself, line_or_itself, line_of, no_goal, if_small, goal_from, goal_line}
use Rattle.nomos_simplex.specs.Nearest.{line_at}
use Rattle.nomos_simplex.specs.Sizes.{IsNumber, IsVariable, IsLine, IsLowest, IsTable}
use Rattle.nomos_simplex.specs.Tables.{bound_of, sum_at}
use Rattle.nomos_simplex.specs.declared.classes.Class.{Class}
use Rattle.nomos_simplex.specs.declared.classes.Classes.{Classes}
use Rattle.nomos_simplex.specs.declared.table.TableLine.{TableLine}
use Rattle.nomos_simplex.specs.declared.table.Table.{Table}
use Rattle.nomos_simplex.specs.mirror.Classes.{IsIn, IsClass, class_at, IsInOne, column_at, Fit, SameNumbers, StandsFor}
use Rattle.nomos_simplex.proofs.AmountLemmas.{found_passes, star_bound}
use Rattle.nomos_simplex.proofs.ClassLemmas.{no_line, in_class-is_variable, line_class, column_class, same_line, line_of-basic, line_of-passes, basic_line, column-nonbasic_in_full}
use Rattle.nomos_simplex.proofs.CountLemmas.{counted}
use Rattle.nomos_simplex.proofs.GoalLineLemmas.{itself_sum, itself-is_line}
use Rattle.nomos_simplex.proofs.DivisorLemmas.{common_one}
use Rattle.nomos_simplex.proofs.KeepingLemmas.{line_small, maps_alike}
use Rattle.nomos_simplex.proofs.TableLaws.{IsTableOfRows, table-is_table, all_false}
use Rattle.nomos_simplex.proofs.VariableLemmas.{nonbasic_times, basic_times, HasEachOnce, not_basic, basic-is_variable}

-- ---- a star is alone in its class
alone : (rows : RowList) (class : Class) (v w : ℕ) → IsClass rows class → IsIn class v → IsIn class w →
    v ≤ rows.stars → v ≡ w
alone rows class v w c i k few = ⊎_elim
    (λ more. let a = (c.alike class.first (omega arith) more).row in absurd (omega (arith, i.from)))
    (λ one. omega (arith, i.from, i.to, k.from, k.to))
    (cases_lt class.first class.last)

-- ---- lines with the same numbers
same_is_line : (n : ℕ) (a b : TableLine) → SameNumbers a b → IsLine n b → IsLine n a
same_is_line n a b s h = record {
  width = ap length s.coefs ∙ h.width;
  times = subst IsNumber (sym s.times) h.times;
  positive = subst (λ z. pos 0 <ℤ z) (sym s.times) h.positive;
  coefs = subst (All IsNumber) (sym s.coefs) h.coefs;
}

same_lowest : (a b : TableLine) → SameNumbers a b → IsLowest b → IsLowest a
same_lowest a b s h = (λ p. common (unsigned_abs (s.times p)) (s.coefs p)) ∙ h

same_large : (a b : TableLine) → SameNumbers a b → is_large_line a ≡ is_large_line b
same_large a b s = λ p. is_large (s.times p) || list_any is_large (s.coefs p)

-- ---- what stands at a place of the table
at_each_place : {X : Type 0} (P : X → Type 0) (xs : List X) (e : X) →
    ((k : ℕ) → k < length xs → P (get_or xs k e)) → All P xs
at_each_place P xs e h k d l = subst P (get_or_default xs k e d l) (h k l)

line_numbers : (rows : RowList) (table : Table) (classes : Classes) (full : Table) →
    StandsFor rows table classes full → All (λ line. SameNumbers line (line_of full line.basic)) table.lines
line_numbers rows table classes full s =
    at_each_place (λ line. SameNumbers line (line_of full line.basic)) table.lines no_line
    (λ k l. s.lines k (line_at table.lines k).basic l (s.fit.basic k l))

line_variables : (rows : RowList) (table : Table) (classes : Classes) → Fit rows table classes →
    All (λ line. IsVariable rows line.basic) table.lines
line_variables rows table classes f =
    at_each_place (λ line. IsVariable rows line.basic) table.lines no_line
    (λ k l. in_class-is_variable rows (class_at classes.lines k) (line_at table.lines k).basic
    (line_class rows table classes k f l) (f.basic k l))

-- ---- the line of a star
star_in_column : (rows : RowList) (table : Table) (classes : Classes) (full : Table) (star : ℕ) →
    HasEachOnce rows full → StandsFor rows table classes full → star ≤ rows.stars → IsInOne classes.columns star →
    itself table.nonbasic star ≡ line_of full star
star_in_column rows table classes full star h s high i =
    let j = i.place in
    let l : j < length table.nonbasic = omega (arith, i.within, s.fit.columns) in
    let same : star ≡ column_at table j =
    alone rows (class_at classes.columns j) star (column_at table j)
    (column_class rows table classes j s.fit l) i.is_in (s.fit.nonbasic j l) high in
    (λ p. itself (s.nonbasic p) (same p)) ∙ sym (column-nonbasic_in_full rows table classes full j h s l).is
    ∙ ap (line_of full) (sym same)

star_in_line : (rows : RowList) (table : Table) (classes : Classes) (star : ℕ) → Fit rows table classes →
    star ≤ rows.stars → IsInOne classes.lines star → 0 < basic_times star table.lines
star_in_line rows table classes star f high i =
    let k = i.place in
    let l : k < length table.lines = omega (arith, i.within, f.lines) in
    let same : star ≡ (line_at table.lines k).basic =
    alone rows (class_at classes.lines k) star (line_at table.lines k).basic
    (line_class rows table classes k f l) i.is_in (f.basic k l) high in
    counted (λ line. line.basic == star) table.lines k no_line l
    (eq-eqb (line_at table.lines k).basic star (sym same))

star_of : (rows : RowList) (table : Table) (classes : Classes) (full : Table) (star : ℕ) (o : Option TableLine) →
    HasEachOnce rows full → StandsFor rows table classes full → 1 ≤ star → star ≤ rows.stars →
    find (λ line. line.basic == star) table.lines ≡ o → line_or_itself table.nonbasic star o ≡ line_of full star
star_of rows table classes full star (Some line) h s low high e =
    let found = found_passes (λ (line : TableLine). SameNumbers line (line_of full line.basic))
    (λ line. line.basic == star)
    table.lines line (line_numbers rows table classes full s) e in
    let is = eqb-true line.basic star found.1 in
    same_line line (line_of full line.basic) found.0 (sym (line_of-basic full line.basic)) ∙ ap (line_of full) is
star_of rows table classes full star None h s low high e = ⊎_elim
    (λ i. absurd (omega (arith, star_in_line rows table classes star s.fit high i, not_basic star table.lines e)))
    (λ i. star_in_column rows table classes full star h s high i)
    (s.fit.cover star (low, omega arith))

-- the line that each star has in the table is that which it has in the table stood for
pub line_of-stands : (rows : RowList) (table : Table) (classes : Classes) (full : Table) (star : ℕ) →
    IsTableOfRows rows full → StandsFor rows table classes full → 1 ≤ star → star ≤ rows.stars →
    line_of table star ≡ line_of full star
line_of-stands rows table classes full star t s low high =
    star_of rows table classes full star (find (λ line. line.basic == star) table.lines) t.each_once s low high refl

-- ---- the fractions of the stars
itself_nothing : (y : ℕ → ℤ) (v : ℕ) (vs : List ℕ) → y v ≡ pos 0 → sum_at y vs (itself vs v).coefs ≡ pos 0
itself_nothing y v vs none =
    let n = pos (nonbasic_times v vs) in itself_sum y v vs ∙ ap (λ z. n *ℤ z) none ∙ *ℤ-zero n

-- a fraction is that of the star's line, basic or not
fraction_by_line : (rows : RowList) (table : Table) (star : ℕ) → star ≤ rows.stars →
    fraction_of rows table star ≡ fraction_in rows table.nonbasic (Some (line_of table star))
fraction_by_line rows table star high = of_found (find (λ line. line.basic == star) table.lines)
  where
    of_found : (o : Option TableLine) → fraction_in rows table.nonbasic o ≡
        fraction_in rows table.nonbasic (Some (line_or_itself table.nonbasic star o))
    of_found (Some line) = refl
    of_found None =
        λ p. (unsigned_abs (sym (itself_nothing (bound_of rows) star table.nonbasic (star_bound rows star high)) p), 1)

stars_within : (n : ℕ) → All (λ v. (1 ≤ v) × (v ≤ n)) (range_with_len 1 n)
stars_within n k d l =
    let k' : k < n = omega (arith, length-range_with_len 1 n) in
    let is = get_or-range_with_len 1 n k d k' in
    (omega arith, omega arith)

pub fractions-stand : (rows : RowList) (table : Table) (classes : Classes) (full : Table) → IsTableOfRows rows full →
    StandsFor rows table classes full → fractions rows table ≡ fractions rows full
fractions-stand rows table classes full t s =
    maps_alike (fraction_of rows table) (fraction_of rows full) (range_with_len 1 rows.stars)
    (All-weaker (λ v. (1 ≤ v) × (v ≤ rows.stars)) (λ v. fraction_of rows table v ≡ fraction_of rows full v)
    (λ v h. let same = line_of-stands rows table classes full v t s h.0 h.1 in
    fraction_by_line rows table v h.1
    ∙ (λ p. fraction_in rows (s.nonbasic p) (Some (same p)))
    ∙ sym (fraction_by_line rows full v h.1))
    (range_with_len 1 rows.stars) (stars_within rows.stars))

-- ---- the line of a goal
goal_from-stands : (rows : RowList) (table : Table) (classes : Classes) (full : Table) (star : ℕ) (cs : List ℤ)
    (line : TableLine) → IsTableOfRows rows full → StandsFor rows table classes full → 1 ≤ star →
    star + length cs ≤ rows.stars + 1 → goal_from table star cs line ≡ goal_from full star cs line
goal_from-stands rows table classes full star [] line t s low high = refl
goal_from-stands rows table classes full star (c ∷ cs) line t s low high =
    let same = line_of-stands rows table classes full star t s low (omega arith) in
    let rest : (made : TableLine) → goal_from table (star + 1) cs made ≡ goal_from full (star + 1) cs made =
    λ made. goal_from-stands rows table classes full (star + 1) cs made t s (omega arith) (omega arith) in
    λ p. if_small (in_lowest_terms (with_added c (same p) line)) (λ made. rest made p)

pub goal_line-stands : (rows : RowList) (table : Table) (classes : Classes) (full : Table) (goal : Form) →
    length goal.coefs ≡ rows.stars → IsTableOfRows rows full → StandsFor rows table classes full →
    goal_line table goal ≡ goal_line full goal
goal_line-stands rows table classes full goal w t s =
    goal_from-stands rows table classes full 1 goal.coefs (no_goal table) t s (omega arith) (omega arith)
    ∙ (λ p. goal_from full 1 goal.coefs
    (record { times = pos 1; basic = 0; coefs = replicate (length (s.nonbasic p)) (pos 0) }))

-- ---- how large its numbers are
pub small-is_table : (rows : RowList) (table : Table) (classes : Classes) (full : Table) → IsTableOfRows rows full →
    StandsFor rows table classes full → IsTable rows table
small-is_table rows table classes full t s =
    let whole = table-is_table rows full t in
    let numbers = line_numbers rows table classes full s in
    let own : (v : ℕ) → IsLine rows.stars (itself full.nonbasic v) =
    λ v. subst (λ n. IsLine n (itself full.nonbasic v)) t.stars (itself-is_line full.nonbasic v) in
    record {
      width = ap length s.nonbasic ∙ t.stars;
      nonbasic = subst (All (IsVariable rows)) (sym s.nonbasic) whole.nonbasic;
      basic = line_variables rows table classes s.fit;
      lines = All-weaker (λ line. SameNumbers line (line_of full line.basic)) (IsLine rows.stars)
          (λ line same. same_is_line rows.stars line (line_of full line.basic) same
          (line_of-passes (IsLine rows.stars) full line.basic whole.lines (own line.basic))) table.lines numbers;
      lowest = All-weaker (λ line. SameNumbers line (line_of full line.basic)) IsLowest
          (λ line same. same_lowest line (line_of full line.basic) same
          (line_of-passes IsLowest full line.basic whole.lowest
          (common_one (itself full.nonbasic line.basic).coefs))) table.lines numbers;
    }

itself_small : (vs : List ℕ) (v : ℕ) → is_large_line (itself vs v) ≡ false
itself_small vs v = line_small (length vs) (itself vs v) (itself-is_line vs v)

-- ---- where the one has a large number, the other has
small_below : (rows : RowList) (table : Table) (classes : Classes) (full : Table) → StandsFor rows table classes full →
    is_large_table full ≡ false → is_large_table table ≡ false
small_below rows table classes full s e =
    list_any_none is_large_line table.lines
    (All-weaker (λ line. SameNumbers line (line_of full line.basic)) (λ line. is_large_line line ≡ false)
    (λ line same. same_large line (line_of full line.basic) same
    ∙ line_of-passes (λ line. is_large_line line ≡ false) full line.basic (all_false is_large_line full.lines e)
    (itself_small full.nonbasic line.basic)) table.lines (line_numbers rows table classes full s))

small_line_of : (rows : RowList) (table : Table) (classes : Classes) (full : Table) (v : ℕ) →
    StandsFor rows table classes full → HasEachOnce rows full → is_large_table table ≡ false → IsVariable rows v →
    is_large_line (line_of full v) ≡ false
small_line_of rows table classes full v s h e is = ⊎_elim
    (λ i. let k = i.place in
    let l : k < length table.lines = omega (arith, i.within, s.fit.lines) in
    sym (same_large (line_at table.lines k) (line_of full v) (s.lines k v l i.is_in))
    ∙ all_false is_large_line table.lines e k no_line l)
    (λ i. let j = i.place in
    let l : j < length table.nonbasic = omega (arith, i.within, s.fit.columns) in
    sym (same_large (line_of full (column_at table j)) (line_of full v) (s.columns j v l i.is_in))
    ∙ ap is_large_line (column-nonbasic_in_full rows table classes full j h s l).is
    ∙ itself_small full.nonbasic (column_at table j))
    (s.fit.cover v is)

small_above : (rows : RowList) (table : Table) (classes : Classes) (full : Table) → StandsFor rows table classes full →
    HasEachOnce rows full → is_large_table table ≡ false → is_large_table full ≡ false
small_above rows table classes full s h e =
    list_any_none is_large_line full.lines
    (λ k d l. let line = get_or full.lines k d in
    ap is_large_line (sym (basic_line rows full k d h l))
    ∙ small_line_of rows table classes full line.basic s h e (basic-is_variable rows full h k d l))

pub large-stands : (rows : RowList) (table : Table) (classes : Classes) (full : Table) →
    StandsFor rows table classes full → HasEachOnce rows full → is_large_table table ≡ is_large_table full
large-stands rows table classes full s h =
    by_tests (is_large_table table) (is_large_table full) (small_above rows table classes full s h)
    (small_below rows table classes full s)
  where
    by_tests : (x y : Bool) → (x ≡ false → y ≡ false) → (y ≡ false → x ≡ false) → x ≡ y
    by_tests true true f g = refl
    by_tests true false f g = g refl
    by_tests false true f g = sym (f refl)
    by_tests false false f g = refl
