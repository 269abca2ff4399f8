-- A goal that no star makes smaller is bounded: where its line has a coefficient below 0, some line has one in that
-- column.
use Rattle.std.proofs.Common.{◌≡◌, ◌==◌, ℕ, zero, suc, ◌+◌, ◌*◌, ◌<◌, ◌≤◌, ◌/◌, Bool, true, false, cond, List, [], ◌∷◌, length, get_or, refl, ap, sym, subst, ◌∙◌, arith, ℤ, pos, negsuc, ◌+ℤ◌, ◌*ℤ◌, ◌≤ℤ◌, ◌<ℤ◌, unsigned_abs, int_lt, All, Option, Some, None, find}
use Rattle.std.specs.List.{range_with_len}
use Rattle.std.proofs.lemmas.Int.{ints}
use Rattle.std.proofs.lemmas.Bool.{eq-eqb}
use Rattle.std.proofs.lemmas.List.{get_or_default}
use Rattle.std.proofs.lemmas.List.Elements.{All-head, All-tail}
use Rattle.std.proofs.lemmas.List.Sums.{sum_by-cons}
use borrow.Author.Differences.{le_out, lt_out, at_most_in, lt-false}
use Rattle.nomos_forms.specs.declared.row_list.RowList.{RowList}
use Rattle.nomos_simplex.specs.Exchange.{coef_at}
use Rattle.nomos_simplex.specs.Nearest.{is_nearer, line_at, nearest}
use Rattle.nomos_simplex.specs.Tables.{sum_at, Holds, first_table}
use Rattle.nomos_simplex.specs.declared.table.TableLine.{TableLine}
use Rattle.nomos_simplex.specs.declared.table.Table.{Table}
use Rattle.nomos_simplex.proofs.AmountLemmas.{value_from, value_under, times_product, product_positive, values_hold, value-nonbasic, found_passes}
use Rattle.nomos_simplex.proofs.CountLemmas.{counted}
use Rattle.nomos_simplex.proofs.ExchangeLemmas.{HoldsFor}
use Rattle.nomos_simplex.proofs.PlaceLemmas.{none_foremost}
use Rattle.nomos_simplex.proofs.SumLemmas.{sum_times_all}
use Rattle.nomos_simplex.proofs.TableLaws.{IsTableOfRows, are_over_zero}
use Rattle.nomos_simplex.proofs.VariableLemmas.{nonbasic_times}

-- ---- one variable rises
-- 1 for this variable, 0 for each other
abbrev pub one_of : ℕ → ℕ → ℤ
one_of e v = cond (v == e) (pos 1) (pos 0)

none_counted : (t : Bool) (c z r : ℤ) (n m : ℕ) → n ≡ cond t 1 0 + m → n ≡ 0 → (m ≡ 0 → r ≡ pos 0) →
    c *ℤ cond t (pos 1) (pos 0) +ℤ r ≡ pos 0
none_counted true c z r n m e h rest = absurd (omega arith)
none_counted false c z r n m e h rest = nothing c r (rest (omega arith))
  where
    nothing : (c r : ℤ) → r ≡ pos 0 → c *ℤ pos 0 +ℤ r ≡ pos 0
    nothing c r h = omega (arith, ints)

sum_none : (e : ℕ) (vs : List ℕ) (cs : List ℤ) → nonbasic_times e vs ≡ 0 → sum_at (one_of e) vs cs ≡ pos 0
sum_none e [] cs h = refl
sum_none e (v ∷ vs) [] h = refl
sum_none e (v ∷ vs) (c ∷ cs) h =
    none_counted (v == e) c (pos 0) (sum_at (one_of e) vs cs) (nonbasic_times e (v ∷ vs)) (nonbasic_times e vs)
    (sum_by-cons (λ w. cond (w == e) 1 0) v vs) h (λ i. sum_none e vs cs i)

one_here : (t : Bool) (c r : ℤ) (n m : ℕ) → t ≡ true → n ≡ cond t 1 0 + m → n ≤ 1 → (m ≡ 0 → r ≡ pos 0) →
    c *ℤ cond t (pos 1) (pos 0) +ℤ r ≡ c
one_here true c r n m p e h rest = alone c r (rest (omega arith))
  where
    alone : (c r : ℤ) → r ≡ pos 0 → c *ℤ pos 1 +ℤ r ≡ c
    alone c r h = omega (arith, ints)
one_here false c r n m p e h rest = cc

one_later : (t : Bool) (c r x : ℤ) (n m : ℕ) → n ≡ cond t 1 0 + m → n ≤ 1 → 0 < m → r ≡ x →
    c *ℤ cond t (pos 1) (pos 0) +ℤ r ≡ x
one_later true c r x n m e h p i = absurd (omega arith)
one_later false c r x n m e h p i = later c r x i
  where
    later : (c r x : ℤ) → r ≡ x → c *ℤ pos 0 +ℤ r ≡ x
    later c r x h = omega (arith, ints)

-- where it stands once, in column j, a sum is its coefficient
sum_one : (vs : List ℕ) (cs : List ℤ) (j : ℕ) → j < length vs → length cs ≡ length vs →
    nonbasic_times (get_or vs j 0) vs ≤ 1 → sum_at (one_of (get_or vs j 0)) vs cs ≡ get_or cs j (pos 0)
sum_one [] cs j h w once = absurd (omega arith)
sum_one (v ∷ vs) [] j h w once = absurd (omega arith)
sum_one (v ∷ vs) (c ∷ cs) zero h w once =
    one_here (v == v) c (sum_at (one_of v) vs cs) (nonbasic_times v (v ∷ vs)) (nonbasic_times v vs) (eq-eqb v v refl)
    (sum_by-cons (λ w. cond (w == v) 1 0) v vs) once (λ i. sum_none v vs cs i)
sum_one (v ∷ vs) (c ∷ cs) (suc j) h w once =
    let e = get_or vs j 0 in
    let more = sum_by-cons (λ w. cond (w == e) 1 0) v vs in
    let some = counted (λ w. w == e) vs j 0 (omega arith) (eq-eqb e e refl) in
    one_later (v == e) c (sum_at (one_of e) vs cs) (get_or cs j (pos 0)) (nonbasic_times e (v ∷ vs))
    (nonbasic_times e vs) more once some
    (sum_one vs cs j (omega arith) (omega arith)
    (most (v == e) (nonbasic_times e (v ∷ vs)) (nonbasic_times e vs) more once))
  where
    most : (t : Bool) (n m : ℕ) → n ≡ cond t 1 0 + m → n ≤ 1 → m ≤ 1
    most true n m e h = omega arith
    most false n m e h = omega arith

-- ---- then no variable falls, and the goal does not either
product_not_below : (a b : ℤ) → pos 0 ≤ℤ a → pos 0 ≤ℤ b → pos 0 ≤ℤ (a *ℤ b)
product_not_below (pos a) (pos b) h i = at_most_in (pos 0) (pos (a * b)) (omega arith)
product_not_below (pos a) (negsuc b) h i = absurd (omega (arith, le_out (pos 0) (negsuc b) i))
product_not_below (negsuc a) b h i = absurd (omega (arith, le_out (pos 0) (negsuc a) h))

sum_not_below : (y : ℕ → ℤ) (vs : List ℕ) (cs : List ℤ) → All (λ v. pos 0 ≤ℤ y v) vs → All (λ c. pos 0 ≤ℤ c) cs →
    pos 0 ≤ℤ sum_at y vs cs
sum_not_below y [] cs h i = at_most_in (pos 0) (pos 0) (omega arith)
sum_not_below y (v ∷ vs) [] h i = at_most_in (pos 0) (pos 0) (omega arith)
sum_not_below y (v ∷ vs) (c ∷ cs) h i =
    both (c *ℤ y v) (sum_at y vs cs)
    (product_not_below c (y v) (All-head (λ c. pos 0 ≤ℤ c) c cs i) (All-head (λ v. pos 0 ≤ℤ y v) v vs h))
    (sum_not_below y vs cs (All-tail (λ v. pos 0 ≤ℤ y v) v vs h) (All-tail (λ c. pos 0 ≤ℤ c) c cs i))
  where
    both : (a b : ℤ) → pos 0 ≤ℤ a → pos 0 ≤ℤ b → pos 0 ≤ℤ (a +ℤ b)
    both a b h i = at_most_in (pos 0) (a +ℤ b) (omega (arith, ints, le_out (pos 0) a h, le_out (pos 0) b i))

module _ (rows : RowList) (table : Table) (t : IsTableOfRows rows table) (j : ℕ) (h : j < length table.nonbasic)
    (lines : All (λ line. pos 0 ≤ℤ coef_at j line) table.lines) where
  once : nonbasic_times (get_or table.nonbasic j 0) table.nonbasic ≤ 1
  once = omega (arith, t.each_once.once (get_or table.nonbasic j 0))

  one_of-not_below : (v : ℕ) → pos 0 ≤ℤ one_of (get_or table.nonbasic j 0) v
  one_of-not_below v = of_test (v == get_or table.nonbasic j 0)
    where
      of_test : (t : Bool) → pos 0 ≤ℤ cond t (pos 1) (pos 0)
      of_test true = at_most_in (pos 0) (pos 1) (omega arith)
      of_test false = at_most_in (pos 0) (pos 0) (omega arith)

  risen : (v : ℕ) (o : Option TableLine) → find (λ line. line.basic == v) table.lines ≡ o →
      pos 0 ≤ℤ value_from (times_product table.lines) (one_of (get_or table.nonbasic j 0)) table.nonbasic v o
  risen v None e = product_not_below (pos (times_product table.lines)) (one_of (get_or table.nonbasic j 0) v)
      (at_most_in (pos 0) (pos (times_product table.lines)) (omega arith)) (one_of-not_below v)
  risen v (Some line) e =
      let m = times_product table.lines in
      let own = found_passes (λ line. pos 0 ≤ℤ coef_at j line) (λ line. line.basic == v) table.lines line lines e in
      let is =
      found_passes (λ line. length line.coefs ≡ length table.nonbasic) (λ line. line.basic == v) table.lines line
      (λ k d l. (t.lines k d l).width) e in
      product_not_below (pos (m / unsigned_abs line.times))
      (sum_at (one_of (get_or table.nonbasic j 0)) table.nonbasic line.coefs)
      (at_most_in (pos 0) (pos (m / unsigned_abs line.times)) (omega arith))
      (subst (λ z. pos 0 ≤ℤ z) (sym (sum_one table.nonbasic line.coefs j h is.0 once)) own.0)

-- the goal's line has no coefficient below 0 there
pub goal-not_below : (rows : RowList) (table : Table) (j : ℕ) (line : TableLine) (coefs : List ℤ)
    → IsTableOfRows rows table
    →
    j < length table.nonbasic → All (λ line. pos 0 ≤ℤ coef_at j line) table.lines →
    length line.coefs ≡ length table.nonbasic → pos 0 <ℤ line.times → All (λ c. pos 0 ≤ℤ c) coefs →
    ((y : ℕ → ℤ) → Holds y (first_table rows) →
    HoldsFor (sum_at y (range_with_len 1 rows.stars) coefs) y table.nonbasic line) →
    ¬ (coef_at j line <ℤ pos 0)
goal-not_below rows table j line coefs t h lines w over high holds under =
    let m = times_product table.lines in
    let e = get_or table.nonbasic j 0 in
    let y = value_under m (one_of e) table in
    let first = t.true_of_rows y (values_hold (one_of e) rows table t.each_once (are_over_zero rows table t)) in
    let low = sum_not_below y (range_with_len 1 rows.stars) coefs
    (λ k d l. let v = get_or (range_with_len 1 rows.stars) k d in
    risen rows table t j h lines v (find (λ line. line.basic == v) table.lines) refl) high in
    let sum = sum_times_all (one_of e) y (pos m) table.nonbasic line.coefs
    (value-nonbasic m (one_of e) rows table t.each_once) ∙ ap (λ z. pos m *ℤ z)
    (sum_one table.nonbasic line.coefs j h w (once rows table t j h lines)) in
    apart line.times (sum_at y (range_with_len 1 rows.stars) coefs) m (coef_at j line) over low
    (product_positive table.lines (are_over_zero rows table t)) under (holds y first ∙ sum)
  where
    apart : (t s : ℤ) (m : ℕ) (c : ℤ) → pos 0 <ℤ t → pos 0 ≤ℤ s → 0 < m → c <ℤ pos 0 → t *ℤ s ≡ pos m *ℤ c → ⊥
    apart (pos t) (pos s) (suc m) (negsuc c) h i p u e = omega (arith, ints)
    apart (pos t) (pos s) zero c h i p u e = absurd (omega arith)
    apart (pos t) (pos s) (suc m) (pos c) h i p u e = absurd (omega (arith, lt_out (pos c) (pos 0) u))
    apart (pos t) (negsuc s) m c h i p u e = absurd (omega (arith, le_out (pos 0) (negsuc s) i))
    apart (negsuc t) s m c h i p u e = absurd (omega (arith, lt_out (pos 0) (negsuc t) h))

-- so there is a line that is nearest
pub some_nearest : (rows : RowList) (table : Table) (j : ℕ) (line : TableLine) (coefs : List ℤ)
    → IsTableOfRows rows table →
    j < length table.nonbasic → length line.coefs ≡ length table.nonbasic → pos 0 <ℤ line.times →
    All (λ c. pos 0 ≤ℤ c) coefs →
    ((y : ℕ → ℤ) → Holds y (first_table rows) →
    HoldsFor (sum_at y (range_with_len 1 rows.stars) coefs) y table.nonbasic line) →
    coef_at j line <ℤ pos 0 → ¬ (nearest rows table j ≡ None)
some_nearest rows table j line coefs t h w over high holds under e =
    goal-not_below rows table j line coefs t h
    (λ k d l. let no = none_foremost (λ n. int_lt (coef_at j (line_at table.lines n)) (pos 0))
    (λ n m. is_nearer rows table.nonbasic j (line_at table.lines n) (line_at table.lines m)) (length table.lines) e k
    l in
    subst (λ x. pos 0 ≤ℤ coef_at j x) (get_or_default table.lines k _ d l)
    (at_most_in (pos 0) (coef_at j (line_at table.lines k)) (lt-false (coef_at j (line_at table.lines k)) (pos 0) no)))
    w over high holds under
