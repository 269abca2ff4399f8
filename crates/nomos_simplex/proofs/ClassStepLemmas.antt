-- The variable that follows a nonbasic one in its class takes its place: nothing else changes.
use Rattle.std.proofs.Common.{◌≡◌, ◌==◌, ℕ, zero, suc, ◌+◌, ◌<◌, ◌≤◌, Bool, true, false, List, [], ◌∷◌, length, map, get_or, set, refl, ap, sym, subst, ◌∙◌, arith, ℤ, pos, ◌-ℤ◌, ◌*ℤ◌, ◌<ℤ◌, int_lt, Option, Some, None}
use Rattle.std.specs.Prelude.{slice_get}
use Rattle.std.proofs.lemmas.Bool.{eqb-true, eqb-false, false≢true}
use Rattle.std.proofs.lemmas.Int.{ints}
use Rattle.std.proofs.lemmas.List.{get_or-map, get_or_default, get_or-set_same, get_or-set_other, length-map, length-set}
use Rattle.std.proofs.Math.IntN.{*ℤ-zero}
use borrow.Author.Differences.{below_in}
use Rattle.nomos_forms.specs.declared.row_list.RowList.{RowList}
use Rattle.nomos_simplex.specs.Exchange.{coef_at, eliminated, put_into, exchanged, is_large_table}
use Rattle.nomos_simplex.specs.Divisors.{in_lowest_terms}
use Rattle.nomos_simplex.specs.GoalLine.{itself, line_of}
use Rattle.nomos_simplex.specs.LowestVariable.{entering}
use Rattle.nomos_simplex.specs.Nearest.{line_at}
use Rattle.nomos_simplex.specs.Sizes.{IsLowest, IsTable}
use Rattle.nomos_simplex.specs.declared.classes.Classes.{Classes}
use Rattle.nomos_simplex.specs.declared.table.TableLine.{TableLine}
use Rattle.nomos_simplex.specs.declared.table.Table.{Table}
use Rattle.nomos_simplex.specs.mirror.Classes.{IsIn, class_at, column_at, Fit, SameNumbers, StandsFor, named, stepped}
use Rattle.nomos_simplex.proofs.ClassLemmas.{next-in, alike, same_by, unit_of, unit_here, line_of-passes, column-nonbasic_in_full}
use Rattle.nomos_simplex.proofs.ClassLineLemmas.{zeros, units_once, entered_by, line_of-exchanged}
use Rattle.nomos_simplex.proofs.ClassTableLemmas.{small-is_table, large-stands}
use Rattle.nomos_simplex.proofs.DivisorLemmas.{common_one, lowest_is, divided_by_one}
use Rattle.nomos_simplex.proofs.ExchangedLemmas.{MayExchange, entered}
use Rattle.nomos_simplex.proofs.LineLemmas.{set_same}
use Rattle.nomos_simplex.proofs.PlaceLemmas.{none_passes, place_passes}
use Rattle.nomos_simplex.proofs.SignLemmas.{one_times, times_one}
use Rattle.nomos_simplex.proofs.TableLaws.{IsTableOfRows, exchanged-is_table}
use Rattle.nomos_simplex.proofs.VariableLemmas.{nonbasic_times, exchanged-has_each_once}

-- ---- the line of a variable that is nonbasic once has 1 in its column, and 0 in each other
unit_in : (vs : List ℕ) (u j : ℕ) → j < length vs → get_or vs j 0 ≡ u → coef_at j (itself vs u) ≡ pos 1
unit_in vs u j h e = get_or-map (unit_of u) vs j 0 (pos 0) h ∙ unit_here u (get_or vs j 0) e

none_in : (vs : List ℕ) (u j m : ℕ) → j < length vs → m < length vs → get_or vs j 0 ≡ u → nonbasic_times u vs ≤ 1 →
    ¬ (m ≡ j) → coef_at m (itself vs u) ≡ pos 0
none_in vs u j m h l e once apart =
    ap (λ cs. get_or cs m (pos 0)) (units_once u vs j h e once)
    ∙ get_or-set_other (zeros vs) j m (pos 1) (pos 0) apart ∙ get_or-map (λ w. pos 0) vs m 0 (pos 0) l

-- ---- put into a line, it changes nothing
less_nothing : (g a c : ℤ) → c ≡ pos 0 → pos 1 *ℤ a -ℤ g *ℤ c ≡ a
less_nothing g a c e = ap (λ z. pos 1 *ℤ a -ℤ z) (ap (λ z. g *ℤ z) e ∙ *ℤ-zero g) ∙ once a
  where
    once : (a : ℤ) → pos 1 *ℤ a -ℤ pos 0 ≡ a
    once a = omega (arith, ints)

put_none : (g : ℤ) (as' cs : List ℤ) → length as' ≡ length cs →
    ((m : ℕ) → m < length cs → get_or cs m (pos 0) ≡ pos 0) → eliminated (pos 1) g as' cs ≡ as'
put_none g [] cs w none = refl
put_none g (a ∷ as') [] w none = absurd (omega arith)
put_none g (a ∷ as') (c ∷ cs) w none =
    let rest = put_none g as' cs (omega arith) (λ m h. none (suc m) (omega (arith, h))) in
    λ q. less_nothing g a c (none 0 (omega arith)) q ∷ rest q

put_one : (g x : ℤ) (as' cs : List ℤ) (j : ℕ) → length as' ≡ length cs →
    ((m : ℕ) → m < length cs → ¬ (m ≡ j) → get_or cs m (pos 0) ≡ pos 0) →
    set (eliminated (pos 1) g as' cs) j x ≡ set as' j x
put_one g x [] cs j w none = refl
put_one g x (a ∷ as') [] j w none = absurd (omega arith)
put_one g x (a ∷ as') (c ∷ cs) zero w none =
    ap (λ rest. x ∷ rest) (put_none g as' cs (omega arith)
    (λ m h. none (suc m) (omega (arith, h)) (λ e. absurd (omega (arith, e)))))
put_one g x (a ∷ as') (c ∷ cs) (suc j) w none =
    let rest = put_one g x as' cs j (omega arith)
    (λ m h n. none (suc m) (omega (arith, h)) (λ e. n (omega (arith, e)))) in
    λ q. less_nothing g a c (none 0 (omega arith) (λ e. absurd (omega (arith, e)))) q ∷ rest q

put_itself : (vs : List ℕ) (u j : ℕ) (line : TableLine) → j < length vs → get_or vs j 0 ≡ u → nonbasic_times u vs ≤ 1 →
    length line.coefs ≡ length vs → put_into j (itself vs u) line ≡ line
put_itself vs u j line h e once w =
    let own = itself vs u in
    let g = coef_at j line in
    let one = unit_in vs u j h e in
    let long = length-map vs (unit_of u) in
    let coefs : set (eliminated (coef_at j own) g line.coefs own.coefs) j (g *ℤ own.times) ≡ line.coefs =
    (λ q. set (eliminated (one q) g line.coefs own.coefs) j (g *ℤ pos 1))
    ∙ put_one g (g *ℤ pos 1) line.coefs own.coefs j (w ∙ sym long)
    (λ m l n. none_in vs u j m h (omega (arith, l, long)) e once n)
    ∙ ap (set line.coefs j) (sym (times_one g))
    ∙ set_same line.coefs j g (omega (arith, h, w)) (get_or_default line.coefs j (pos 0) g (omega (arith, h, w))) in
    λ q. record {
      times = ((λ p. one p *ℤ line.times) ∙ one_times line.times line.times refl) q;
      basic = line.basic;
      coefs = coefs q;
    }

-- a line in lowest terms is as it is in these
already_lowest : (line : TableLine) → pos 0 <ℤ line.times → IsLowest line → in_lowest_terms line ≡ line
already_lowest line over low = lowest_is line 1 over (sym low) ∙ divided_by_one line

entered_itself : (vs : List ℕ) (u j : ℕ) (line : TableLine) → j < length vs → get_or vs j 0 ≡ u →
    nonbasic_times u vs ≤ 1 → length line.coefs ≡ length vs → pos 0 <ℤ line.times → IsLowest line →
    entered j (itself vs u) line ≡ line
entered_itself vs u j line h e once w over low =
    ap in_lowest_terms (put_itself vs u j line h e once w) ∙ already_lowest line over low

-- ---- the one column with a coefficient over 0 enters
only_enters : (full : Table) (left : TableLine) (j : ℕ) → j < length full.nonbasic → coef_at j left ≡ pos 1 →
    ((m : ℕ) → m < length full.nonbasic → ¬ (m ≡ j) → coef_at m left ≡ pos 0) → entering full left ≡ Some j
only_enters full left j h one none = of_place (entering full left) refl
  where
    passes : ℕ → Bool
    passes m = int_lt (pos 0) (coef_at m left)

    number : ℕ → ℕ
    number m = get_or full.nonbasic m 0

    of_test : (m : ℕ) (t : Bool) → m == j ≡ t → m < length full.nonbasic → passes m ≡ true → m ≡ j
    of_test m true e l p = eqb-true m j e
    of_test m false e l p =
        absurd (false≢true (sym (ap (int_lt (pos 0)) (none m l (λ same. eqb-false m j e same))) ∙ p))

    of_place : (o : Option ℕ) → entering full left ≡ o → o ≡ Some j
    of_place (Some m) e =
        let found = place_passes passes number (length full.nonbasic) m e in
        ap Some (of_test m (m == j) refl found.0 found.1)
    of_place None e =
        absurd (false≢true (sym (none_passes passes number (length full.nonbasic) e j h) ∙ ap (int_lt (pos 0)) one))

module _ (rows : RowList) (k j : ℕ) (left : TableLine) (table : Table) (classes : Classes) (full : Table)
    (of_rows : IsTableOfRows rows full) (stands : StandsFor rows table classes full)
    (inside : j < length table.nonbasic) (followed : column_at table j < (class_at classes.columns j).last)
    (place : slice_get full.lines k ≡ Some left)
    (next : left ≡ named (column_at table j + 1) (line_of full (column_at table j))) where
  column : j < length full.nonbasic
  column = subst (λ (vs : List ℕ). j < length vs) stands.nonbasic inside

  here : get_or full.nonbasic j 0 ≡ column_at table j
  here = ap (λ vs. get_or vs j 0) (sym stands.nonbasic)

  once : nonbasic_times (column_at table j) full.nonbasic ≤ 1
  once = omega (arith, of_rows.each_once.once (column_at table j))

  -- the nonbasic variable is once itself, and so is the next
  own : line_of full (column_at table j) ≡ itself full.nonbasic (column_at table j)
  own = (column-nonbasic_in_full rows table classes full j of_rows.each_once stands inside).is

  left_numbers : SameNumbers left (itself full.nonbasic (column_at table j))
  left_numbers = let e = next ∙ ap (named (column_at table j + 1)) own in
      record { times = ap (λ (line : TableLine). line.times) e; coefs = ap (λ (line : TableLine). line.coefs) e }

  left_coef : (m : ℕ) → coef_at m left ≡ coef_at m (itself full.nonbasic (column_at table j))
  left_coef m = ap (λ cs. get_or cs m (pos 0)) left_numbers.coefs

  one_there : coef_at j left ≡ pos 1
  one_there = left_coef j ∙ unit_in full.nonbasic (column_at table j) j column here

  pub step-may : MayExchange k j left full
  step-may = record {
    place = place;
    column = column;
    coef = λ e. one_not_none (sym one_there ∙ e);
    lines = of_rows.lines;
  }
    where
      one_not_none : ¬ (pos 1 ≡ pos 0)
      one_not_none e = cc

  pub step-enters : entering full left ≡ Some j
  step-enters = only_enters full left j column one_there
      (λ m l n. left_coef m ∙ none_in full.nonbasic (column_at table j) j m column l here once n)

  -- ---- no variable has another line than before
  kept : (v : ℕ) → line_of (exchanged k j left full) v ≡ line_of full v
  kept v =
      let vs = full.nonbasic in
      let u = column_at table j in
      let stays : (line : TableLine) → length line.coefs ≡ length vs → pos 0 <ℤ line.times → IsLowest line →
      entered j left line ≡ line =
      λ line w over low. entered_by j left (itself vs u) line left_numbers
      ∙ entered_itself vs u j line column here once w over low in
      line_of-exchanged rows k j left full v of_rows step-may
      ∙ line_of-passes (λ line. entered j left line ≡ line) full v
      (λ n d l. let line = of_rows.lines n d l in
      stays (get_or full.lines n d) line.width line.over (of_rows.lowest n d l))
      (stays (itself vs v) (length-map vs (unit_of v)) (below_in (pos 0) (pos 1) (omega arith))
      (common_one (map (unit_of v) vs)))

  -- ---- the classes are as before
  next_variable : left.basic ≡ column_at table j + 1
  next_variable = ap (λ (line : TableLine). line.basic) next

  -- in column m stands a variable of its class
  in_class : (m : ℕ) → m < length table.nonbasic →
      IsIn (class_at classes.columns m) (column_at (stepped j table) m)
  in_class m h = of_test (m == j) refl
    where
      of_test : (t : Bool) → m == j ≡ t → IsIn (class_at classes.columns m) (column_at (stepped j table) m)
      of_test true e =
          subst (λ n. IsIn (class_at classes.columns n) (column_at (stepped j table) n)) (sym (eqb-true m j e))
          (subst (IsIn (class_at classes.columns j))
          (sym (get_or-set_same table.nonbasic j (column_at table j + 1) 0 inside))
          (next-in rows table classes j stands.fit inside followed))
      of_test false e =
          subst (IsIn (class_at classes.columns m))
          (sym (get_or-set_other table.nonbasic j m (column_at table j + 1) 0 (eqb-false m j e)))
          (stands.fit.nonbasic m h)

  shorter : (m : ℕ) → m < length (stepped j table).nonbasic → m < length table.nonbasic
  shorter m h = omega (arith, h, length-set table.nonbasic j (column_at table j + 1))

  step-fit : Fit rows (stepped j table) classes
  step-fit = record {
    lines = stands.fit.lines;
    columns = stands.fit.columns ∙ sym (length-set table.nonbasic j (column_at table j + 1));
    of_lines = stands.fit.of_lines;
    of_columns = stands.fit.of_columns;
    basic = stands.fit.basic;
    nonbasic = λ m h. in_class m (shorter m h);
    cover = stands.fit.cover;
  }

  pub step-stands : StandsFor rows (stepped j table) classes (exchanged k j left full)
  step-stands = record {
    fit = step-fit;
    nonbasic = λ p. set (stands.nonbasic p) j (sym next_variable p);
    lines = λ i v h q. same_by (line_at table.lines i) (line_of full v) (line_at table.lines i)
        (line_of (exchanged k j left full) v) refl (kept v) (stands.lines i v h q);
    columns = λ m v h q.
        let l = shorter m h in
        let before = column_at table m in
        let now = column_at (stepped j table) m in
        same_by (line_of full now) (line_of full v) (line_of (exchanged k j left full) now)
        (line_of (exchanged k j left full) v) (kept now) (kept v)
        (alike (line_of full before) (line_of full now) (line_of full v)
        (stands.columns m now l (in_class m l)) (stands.columns m v l q));
  }

  -- ---- the table is as small as before
  pub step-small : is_large_table (exchanged k j left full) ≡ false
  step-small =
      sym (large-stands rows (stepped j table) classes (exchanged k j left full) step-stands
      (exchanged-has_each_once rows k j left full step-may of_rows.each_once))
      ∙ large-stands rows table classes full stands of_rows.each_once
      ∙ of_rows.small

  pub step-is_table : IsTable rows (stepped j table)
  step-is_table =
      small-is_table rows (stepped j table) classes (exchanged k j left full)
      (exchanged-is_table rows k j left full step-may step-small of_rows) step-stands
