-- The goal's line is true of the goal, and its numbers are as in every line of the run.
use Rattle.std.proofs.Common.{◌≡◌, ◌==◌, ℕ, zero, suc, ◌+◌, ◌≤◌, List, [], ◌∷◌, length, map, get_or, replicate, refl, ap, sym, subst, ◌∙◌, arith, ℤ, pos, ◌+ℤ◌, ◌*ℤ◌, All, Option, Some, None, Bool, true, false, cond, find, ◌^◌, ◌||◌}
use Rattle.std.specs.List.{range_with_len, list_any}
use Rattle.std.proofs.lemmas.Int.{ints}
use Rattle.std.proofs.lemmas.Bool.{eqb-true, lt-leb}
use Rattle.std.proofs.lemmas.List.{length-map, length-replicate, get_or-replicate}
use Rattle.std.proofs.lemmas.List.Elements.{All-map}
use Rattle.std.proofs.lemmas.List.Folds.{list_any_none}
use Rattle.std.proofs.lemmas.List.Sums.{sum_by-cons}
use Rattle.std.proofs.Math.IntN.{*ℤ-zero}
use borrow.Author.Differences.{below_in}
use Rattle.nomos_forms.specs.declared.row_list.RowList.{RowList}
use Rattle.nomos_forms.specs.declared.form.Form.{Form}
use Rattle.nomos_forms.proofs.WholeLaws.{times_sum, sum_times, times_assoc, times_swap}
use Rattle.nomos_simplex.specs.Divisors.{in_lowest_terms}
use Rattle.nomos_simplex.specs.Exchange.{is_large, is_large_line}
use Rattle.nomos_simplex.specs.GoalLine.{times_to_common, combined, with_added, itself, line_or_itself, line_of, no_goal, goal_from, goal_line}
use Rattle.nomos_simplex.specs.Sizes.{IsNumber, IsLine, IsLowest}
use Rattle.nomos_simplex.specs.Tables.{sum_at, HoldsAt, Holds}
use Rattle.nomos_simplex.specs.declared.table.TableLine.{TableLine}
use Rattle.nomos_simplex.specs.declared.table.Table.{Table}
use Rattle.nomos_simplex.proofs.AmountLemmas.{found_passes}
use Rattle.nomos_simplex.proofs.DivisorLemmas.{common_one}
use Rattle.nomos_simplex.proofs.ExchangeLemmas.{HoldsFor, lowest_holds_for, lowest_over_zero, lowest-is_lowest, lowest_width}
use Rattle.nomos_simplex.proofs.ExchangedLemmas.{IsLineIn}
use Rattle.nomos_simplex.proofs.GoalLemmas.{length-combined, added_over, same_multiple}
use Rattle.nomos_simplex.proofs.SignLemmas.{not_zero_over}
use Rattle.nomos_simplex.proofs.TableLaws.{IsTableOfRows}
use Rattle.nomos_simplex.proofs.VariableLemmas.{nonbasic_times, not_basic}

-- ---- the line of a star
pub sum_combined : (y : ℕ → ℤ) (p q : ℤ) (vs : List ℕ) (as' cs : List ℤ) → length as' ≡ length cs →
    sum_at y vs (combined p q as' cs) ≡ p *ℤ sum_at y vs as' +ℤ q *ℤ sum_at y vs cs
sum_combined y p q [] as' cs h = sym (λ k. *ℤ-zero p k +ℤ *ℤ-zero q k)
sum_combined y p q (v ∷ vs) [] [] h = sym (λ k. *ℤ-zero p k +ℤ *ℤ-zero q k)
sum_combined y p q (v ∷ vs) [] (c ∷ cs) h = absurd (omega arith)
sum_combined y p q (v ∷ vs) (a ∷ as') [] h = absurd (omega arith)
sum_combined y p q (v ∷ vs) (a ∷ as') (c ∷ cs) h =
    four (p *ℤ (a *ℤ y v)) (q *ℤ (c *ℤ y v)) (p *ℤ sum_at y vs as') (q *ℤ sum_at y vs cs)
    ((p *ℤ a +ℤ q *ℤ c) *ℤ y v) (sum_at y vs (combined p q as' cs)) (p *ℤ (a *ℤ y v +ℤ sum_at y vs as'))
    (q *ℤ (c *ℤ y v +ℤ sum_at y vs cs))
    (sum_times (p *ℤ a) (q *ℤ c) (y v) ∙ (λ k. times_assoc p a (y v) k +ℤ times_assoc q c (y v) k))
    (sum_combined y p q vs as' cs (omega arith)) (times_sum p (a *ℤ y v) (sum_at y vs as'))
    (times_sum q (c *ℤ y v) (sum_at y vs cs))
  where
    four : (pa qc ps qt x t u v : ℤ) → x ≡ pa +ℤ qc → t ≡ ps +ℤ qt → u ≡ pa +ℤ ps → v ≡ qc +ℤ qt → x +ℤ t ≡ u +ℤ v
    four pa qc ps qt x t u v h i j k = omega (arith, ints)

-- a nonbasic variable is as often itself as it is nonbasic
one_more : (x y r : ℤ) (c n : ℕ) (t : Bool) → (t ≡ true → x ≡ y) → r ≡ pos n *ℤ y → c ≡ cond t 1 0 + n →
    cond t (pos 1) (pos 0) *ℤ x +ℤ r ≡ pos c *ℤ y
one_more x y r c n true same h e = ap (λ z. pos 1 *ℤ x +ℤ z) h ∙ ap (λ z. pos 1 *ℤ z +ℤ pos n *ℤ y) (same refl)
    ∙ sym (sum_times (pos 1) (pos n) y) ∙ ap (λ k. pos k *ℤ y) (sym e)
one_more x y r c n false same h e = none x r ∙ h ∙ ap (λ k. pos k *ℤ y) (omega arith)
  where
    none : (x r : ℤ) → pos 0 *ℤ x +ℤ r ≡ r
    none x r = omega (arith, ints)

pub itself_sum : (y : ℕ → ℤ) (v : ℕ) (vs : List ℕ) →
    sum_at y vs (map (λ w. cond (w == v) (pos 1) (pos 0)) vs) ≡ pos (nonbasic_times v vs) *ℤ y v
itself_sum y v [] = none (y v)
  where
    none : (x : ℤ) → pos 0 ≡ pos 0 *ℤ x
    none x = omega (arith, ints)
itself_sum y v (w ∷ vs) =
    one_more (y w) (y v) (sum_at y vs (map (λ w. cond (w == v) (pos 1) (pos 0)) vs)) (nonbasic_times v (w ∷ vs))
    (nonbasic_times v vs) (w == v) (λ e. ap y (eqb-true w v e)) (itself_sum y v vs)
    (sum_by-cons (λ w. cond (w == v) 1 0) w vs)

-- what is known of the line of a star
pub record IsStarLine (y : ℕ → ℤ) (table : Table) (star : ℕ) (line : TableLine) : Type 0 where
  pub fits : IsLineIn table line
  pub holds : HoldsFor (y star) y table.nonbasic line

line_of_star : (y : ℕ → ℤ) (rows : RowList) (table : Table) (star : ℕ) (o : Option TableLine) →
    find (λ line. line.basic == star) table.lines ≡ o → IsTableOfRows rows table → Holds y table → 1 ≤ star →
    star ≤ rows.stars → IsStarLine y table star (line_or_itself table.nonbasic star o)
line_of_star y rows table star (Some line) e t h low high =
    let a = found_passes (IsLineIn table) (λ line. line.basic == star) table.lines line t.lines e in
    let b = found_passes (HoldsAt y table.nonbasic) (λ line. line.basic == star) table.lines line h e in
    record { fits = a.0; holds = subst (λ v. HoldsFor (y v) y table.nonbasic line) (eqb-true line.basic star a.1) b.0 }
line_of_star y rows table star None e t h low high =
    let once : nonbasic_times star table.nonbasic ≡ 1 =
    omega (arith, t.each_once.each star low (omega arith), not_basic star table.lines e) in
    record {
      fits = record {
        width = length-map table.nonbasic (λ w. cond (w == star) (pos 1) (pos 0));
        over = below_in (pos 0) (pos 1) (omega arith);
      };
      holds = sym (itself_sum y star table.nonbasic ∙ ap (λ n. pos n *ℤ y star) once);
    }

-- a nonbasic variable itself has small numbers
unit_small : (v : ℕ) (vs : List ℕ) → All IsNumber (map (λ w. cond (w == v) (pos 1) (pos 0)) vs)
unit_small v vs = All-map IsNumber (λ w. cond (w == v) (pos 1) (pos 0)) vs (λ k d l. of_test (get_or vs k d == v))
  where
    of_test : (t : Bool) → IsNumber (cond t (pos 1) (pos 0))
    of_test true = omega arith
    of_test false = omega arith

pub itself-is_line : (vs : List ℕ) (v : ℕ) → IsLine (length vs) (itself vs v)
itself-is_line vs v = record {
  width = length-map vs (λ w. cond (w == v) (pos 1) (pos 0));
  times = omega arith;
  positive = below_in (pos 0) (pos 1) (omega arith);
  coefs = unit_small v vs;
}

pub star_line-fits : (table : Table) (star : ℕ) (o : Option TableLine) → find (λ line. line.basic == star) table.lines
    ≡ o →
    All (IsLineIn table) table.lines → IsLineIn table (line_or_itself table.nonbasic star o)
star_line-fits table star (Some line) e lines =
    (found_passes (IsLineIn table) (λ line. line.basic == star) table.lines line lines e).0
star_line-fits table star None e lines = record {
  width = length-map table.nonbasic (λ w. cond (w == star) (pos 1) (pos 0));
  over = below_in (pos 0) (pos 1) (omega arith);
}

-- ---- a step
-- a line of a part of the goal
pub record IsGoalLine (table : Table) (line : TableLine) : Type 0 where
  pub fits : IsLineIn table line
  pub lowest : IsLowest line
  pub small : is_large_line line ≡ false

added_holds : (w : ℤ) (y : ℕ → ℤ) (table : Table) (c : ℤ) (v : ℕ) (star line : TableLine) → IsStarLine y table v star →
    IsLineIn table line → HoldsFor w y table.nonbasic line →
    HoldsFor (w +ℤ c *ℤ y v) y table.nonbasic (with_added c star line)
added_holds w y table c v star line s l h =
    let p = times_to_common line.times star.times in
    let q = times_to_common star.times line.times in
    let sum = sum_combined y p (q *ℤ c) table.nonbasic line.coefs star.coefs (l.width ∙ sym s.fits.width) in
    let first : (p *ℤ line.times) *ℤ w ≡ p *ℤ sum_at y table.nonbasic line.coefs = times_assoc p line.times w
    ∙ ap (λ z. p *ℤ z) h in
    let second : (p *ℤ line.times) *ℤ (c *ℤ y v) ≡ (q *ℤ c) *ℤ sum_at y table.nonbasic star.coefs =
    ap (λ z. z *ℤ (c *ℤ y v)) (same_multiple line.times star.times l.over s.fits.over)
    ∙ around q star.times c (y v) ∙ ap (λ z. (q *ℤ c) *ℤ z) s.holds in
    times_sum (p *ℤ line.times) w (c *ℤ y v) ∙ (λ k. first k +ℤ second k) ∙ sym sum
  where
    around : (q d c x : ℤ) → (q *ℤ d) *ℤ (c *ℤ x) ≡ (q *ℤ c) *ℤ (d *ℤ x)
    around q d c x = times_assoc q d (c *ℤ x) ∙ ap (λ z. q *ℤ z) (times_swap d c x) ∙ sym (times_assoc q c (d *ℤ x))

step_holds : (w : ℤ) (y : ℕ → ℤ) (table : Table) (c : ℤ) (v : ℕ) (star line : TableLine) → IsStarLine y table v star →
    IsLineIn table line → HoldsFor w y table.nonbasic line →
    HoldsFor (w +ℤ c *ℤ y v) y table.nonbasic (in_lowest_terms (with_added c star line))
step_holds w y table c v star line s l h =
    (lowest_holds_for (w +ℤ c *ℤ y v) y table.nonbasic (with_added c star line)
    (not_zero_over (with_added c star line).times (added_over c star line l.over s.fits.over))).1
    (added_holds w y table c v star line s l h)

pub step_line : (table : Table) (c : ℤ) (star line : TableLine) → IsLineIn table star → IsLineIn table line →
    is_large_line (in_lowest_terms (with_added c star line)) ≡ false →
    IsGoalLine table (in_lowest_terms (with_added c star line))
step_line table c star line s l small =
    let n = not_zero_over (with_added c star line).times (added_over c star line l.over s.over) in
    record {
      fits = record {
        width = lowest_width (with_added c star line)
            ∙ length-combined (times_to_common line.times star.times) (times_to_common star.times line.times *ℤ c)
            line.coefs star.coefs (l.width ∙ sym s.width) ∙ l.width;
        over = lowest_over_zero (with_added c star line) n;
      };
      lowest = lowest-is_lowest (with_added c star line) n;
      small = small;
    }

-- ---- the line
pub if_small_some : (line made : TableLine) (go_on : TableLine → Option TableLine) (t : Bool) → is_large_line line ≡ t →
    cond t None (go_on line) ≡ Some made → (is_large_line line ≡ false) × (go_on line ≡ Some made)
if_small_some line made go_on true e h = cc
if_small_some line made go_on false e h = (e, h)

-- what is added, star by star
goal_holds : (y : ℕ → ℤ) (rows : RowList) (table : Table) (star : ℕ) (cs : List ℤ) (w : ℤ) (line made : TableLine) →
    IsTableOfRows rows table → Holds y table → 1 ≤ star → star + length cs ≤ rows.stars + 1 → IsLineIn table line →
    HoldsFor w y table.nonbasic line → goal_from table star cs line ≡ Some made →
    HoldsFor (w +ℤ sum_at y (range_with_len star (length cs)) cs) y table.nonbasic made
goal_holds y rows table star [] w line made t h low high l holds e =
    let same : line ≡ made = cc in subst (HoldsFor (w +ℤ pos 0) y table.nonbasic) same
    (ap (λ z. line.times *ℤ z) (nothing w) ∙ holds)
  where
    nothing : (w : ℤ) → w +ℤ pos 0 ≡ w
    nothing w = omega (arith, ints)
goal_holds y rows table star (c ∷ cs) w line made t h low high l holds e =
    let own = line_of table star in
    let is = line_of_star y rows table star (find (λ line. line.basic == star) table.lines) refl t h low
    (omega arith) in
    let next = in_lowest_terms (with_added c own line) in
    let both = if_small_some next made (goal_from table (star + 1) cs) (is_large_line next) refl e in
    let rest =
    goal_holds y rows table (star + 1) cs (w +ℤ c *ℤ y star) next made t h (omega arith) (omega arith)
    (step_line table c own line is.fits l both.0).fits (step_holds w y table c star own line is l holds) both.1 in
    subst (λ z. HoldsFor z y table.nonbasic made)
    (sum_assoc w (c *ℤ y star) (sum_at y (range_with_len (star + 1) (length cs)) cs)) rest
  where
    sum_assoc : (a b c : ℤ) → (a +ℤ b) +ℤ c ≡ a +ℤ (b +ℤ c)
    sum_assoc a b c = omega (arith, ints)

-- its numbers; the stars' lines are in the table, whatever the variables have
goal_numbers : (rows : RowList) (table : Table) (star : ℕ) (cs : List ℤ) (line made : TableLine) →
    IsTableOfRows rows table → IsGoalLine table line → goal_from table star cs line ≡ Some made →
    IsGoalLine table made
goal_numbers rows table star [] line made t l e = let same : line ≡ made = cc in subst (IsGoalLine table) same l
goal_numbers rows table star (c ∷ cs) line made t l e =
    let own = line_of table star in
    let next = in_lowest_terms (with_added c own line) in
    let both = if_small_some next made (goal_from table (star + 1) cs) (is_large_line next) refl e in
    goal_numbers rows table (star + 1) cs next made t
    (step_line table c own line
    (star_line-fits table star (find (λ line. line.basic == star) table.lines) refl t.lines) l.fits both.0) both.1

-- nothing as yet
zeros_sum : (y : ℕ → ℤ) (vs : List ℕ) (n : ℕ) → sum_at y vs (replicate n (pos 0)) ≡ pos 0
zeros_sum y [] n = refl
zeros_sum y (v ∷ vs) zero = refl
zeros_sum y (v ∷ vs) (suc n) = ap (λ z. pos 0 *ℤ y v +ℤ z) (zeros_sum y vs n) ∙ none (y v)
  where
    none : (x : ℤ) → pos 0 *ℤ x +ℤ pos 0 ≡ pos 0
    none x = omega (arith, ints)

small_zeros : (n : ℕ) → list_any is_large (replicate n (pos 0)) ≡ false
small_zeros n = list_any_none is_large (replicate n (pos 0)) (λ k d l. ap is_large (get_or-replicate n k (pos 0) d
    (omega (arith, length-replicate n (pos 0)))) ∙ no_large_zero)
  where
    no_large_zero : is_large (pos 0) ≡ false
    no_large_zero = lt-leb (2 ^ 62) 0 (omega arith)

pub no_goal-is_line : (table : Table) → IsGoalLine table (no_goal table)
no_goal-is_line table = record {
  fits = record {
    width = length-replicate (length table.nonbasic) (pos 0);
    over = below_in (pos 0) (pos 1) (omega arith);
  };
  lowest = common_one (replicate (length table.nonbasic) (pos 0));
  small = or_false (is_large (pos 1)) (list_any is_large (replicate (length table.nonbasic) (pos 0)))
      (lt-leb (2 ^ 62) 1 (omega arith)) (small_zeros (length table.nonbasic));
}
  where
    or_false : (x y : Bool) → x ≡ false → y ≡ false → (x || y) ≡ false
    or_false true y h i = h
    or_false false y h i = i

-- the goal's line is true of the goal
pub goal_line-holds : (y : ℕ → ℤ) (rows : RowList) (table : Table) (goal : Form) (line : TableLine) →
    IsTableOfRows rows table → length goal.coefs ≡ rows.stars → Holds y table → goal_line table goal ≡ Some line →
    HoldsFor (sum_at y (range_with_len 1 rows.stars) goal.coefs) y table.nonbasic line
goal_line-holds y rows table goal line t w h e =
    subst (λ z. HoldsFor z y table.nonbasic line)
    (first (sum_at y (range_with_len 1 (length goal.coefs)) goal.coefs)
    ∙ ap (λ n. sum_at y (range_with_len 1 n) goal.coefs) w)
    (goal_holds y rows table 1 goal.coefs (pos 0) (no_goal table) line t h (omega arith) (omega (arith, w))
    (no_goal-is_line table).fits (sym (zeros_sum y table.nonbasic (length table.nonbasic))) e)
  where
    first : (z : ℤ) → pos 0 +ℤ z ≡ z
    first z = omega (arith, ints)

pub goal_line-numbers : (rows : RowList) (table : Table) (goal : Form) (line : TableLine) → IsTableOfRows rows table →
    goal_line table goal ≡ Some line → IsGoalLine table line
goal_line-numbers rows table goal line t e =
    goal_numbers rows table 1 goal.coefs (no_goal table) line t (no_goal-is_line table) e
