use Rattle.std.proofs.Common.{◌≡◌, ◌==◌, ℕ, zero, suc, ◌+◌, ◌<◌, ◌≤◌, ◌∷◌, [], Bool, true, false, cond, List, ℤ, pos, length, drop, get_or, find, Option, Some, None, to_z, of_z, refl, ap, sym, subst, ◌∙◌, arith, add-one}
use Rattle.std.specs.Int.{w64}
use Rattle.std.proofs.lemmas.Int.{to_z-of_z, fits_signed_from_abs}
use Rattle.std.proofs.lemmas.List.Elements.{All-weaker}
use Rattle.std.proofs.Math.Seq.{drop-cons}
use Rattle.nomos_simplex.specs.Divisors.{in_lowest_terms}
use Rattle.nomos_simplex.specs.Exchange.{is_large_line}
use Rattle.nomos_simplex.specs.GoalLine.{with_added, line_of, if_small, goal_from, goal_line, no_goal}
use Rattle.nomos_simplex.specs.Sizes.{IsLine, IsLowest}
use Rattle.nomos_simplex.specs.declared.table.TableLine.{TableLine}
use Rattle.nomos_simplex.specs.declared.table.Table.{Table}
use Rattle.nomos_simplex.proofs.ExchangedLemmas.{IsLineIn}
use Rattle.nomos_simplex.proofs.GoalLineLemmas.{IsGoalLine, no_goal-is_line, if_small_some, star_line-fits, step_line}
use Rattle.nomos_simplex.proofs.TableLaws.{small_line}
use Rattle.nomos_simplex.proofs.goal_line.goal_line.Goals as goal

drop_step : (cs : List ℤ) (k : ℕ) → k < length cs → drop k cs ≡ get_or cs k (pos 0) ∷ drop (k + 1) cs
drop_step cs k h = rw (add-one, drop-cons cs k (pos 0))

drop_past : (cs : List ℤ) (k : ℕ) → length cs ≤ k → drop k cs ≡ []
drop_past [] zero h = refl
drop_past [] (suc k) h = refl
drop_past (c ∷ cs) zero h = absurd (omega arith)
drop_past (c ∷ cs) (suc k) h = drop_past cs k (omega arith)

-- one star more
stepped : Table → List ℤ → ℕ → TableLine → TableLine
stepped table cs k line = in_lowest_terms (with_added (get_or cs k (pos 0)) (line_of table (k + 1)) line)

goal_step : (table : Table) (cs : List ℤ) (k : ℕ) (line : TableLine) (all : Option TableLine) → k < length cs →
    goal_from table (k + 1) (drop k cs) line ≡ all →
    if_small (stepped table cs k line) (goal_from table (k + 1 + 1) (drop (k + 1) cs)) ≡ all
unfolding stepped
goal_step table cs k line all h e = sym (ap (λ ds. goal_from table (k + 1) ds line) (drop_step cs k h)) ∙ e

if_small_none : (line : TableLine) (t : Bool) → cond t None (Some line) ≡ None → t ≡ true
if_small_none line true e = refl
if_small_none line false e = cc

line_numbers : (table : Table) (line : TableLine) → IsGoalLine table line → IsLine (length table.nonbasic) line
line_numbers table line g =
    let small = small_line line g.small in
    record { width = g.fits.width; times = small.times; positive = g.fits.over; coefs = small.coefs }

fits_in : (table : Table) (line : TableLine) → IsLine (length table.nonbasic) line → IsLineIn table line
fits_in table line l = record { width = l.width; over = l.positive }

pub loop-before-init : goal.loop-before-init
loop-before-init c =
    let table = c.args.table.now in
    let is = c.in_ok-line.ensures in
    record {
      rest = ap (goal_from table 1 c.args.goal.now.coefs) is;
      line =
          subst (IsLine (length table.nonbasic)) (sym is) (line_numbers table (no_goal table) (no_goal-is_line table));
      lowest = subst IsLowest (sym is) (no_goal-is_line table).lowest;
    }

pub loop-before-preserved : goal.loop-before-preserved
unfolding stepped
loop-before-preserved c =
    let table = c.args.table.now in
    let cs = c.args.goal.now.coefs in
    let k = c.loop-before.before in
    let line = c.loop-before.line in
    let within : k < length cs = omega (arith, ap length c.as_slice-coefs.ensures, c.loop-before-test.true) in
    let small = c.requires.goal k (pos 0) within in
    let coef = ap (λ xs. to_z w64 (of_z w64 (get_or xs k (pos 0)))) c.as_slice-coefs.ensures
    ∙ to_z-of_z w64 (get_or cs k (pos 0)) (fits_signed_from_abs w64 (get_or cs k (pos 0)) (omega (arith, small))) in
    let next = c.in-Some.next in
    let made = stepped table cs k line in
    let is = ap (λ z. if_small (in_lowest_terms (with_added z (line_of table (k + 1)) line)) (λ l. Some l)) (sym coef)
    ∙ sym c.in_ok-next.ensures ∙ c.in-Some.is in
    let both = if_small_some made next (λ l. Some l) (is_large_line made) refl is in
    let same : made ≡ next = cc (both.1) in
    let rest = goal_step table cs k line (goal_line table c.args.goal.now) within c.loop-before.invariant.rest in
    let goes = sym (ap (λ t. cond t None (goal_from table (k + 1 + 1) (drop (k + 1) cs) made)) both.0) ∙ rest in
    let own = star_line-fits table (k + 1) (find (λ line. line.basic == k + 1) table.lines) refl
    (All-weaker (IsLine (length table.nonbasic)) (IsLineIn table) (fits_in table) table.lines c.requires.lines) in
    let numbers = step_line table (get_or cs k (pos 0)) (line_of table (k + 1)) line own
    (fits_in table line c.loop-before.invariant.line) both.0 in
    record {
      rest = ap (goal_from table (k + 1 + 1) (drop (k + 1) cs)) (sym same) ∙ goes;
      line = subst (IsLine (length table.nonbasic)) same (line_numbers table made numbers);
      lowest = subst IsLowest same numbers.lowest;
    }

pub returns-in-None : goal.returns-in-None
unfolding stepped
returns-in-None c =
    let table = c.args.table.now in
    let cs = c.args.goal.now.coefs in
    let k = c.loop-before.before in
    let line = c.loop-before.line in
    let within : k < length cs = omega (arith, ap length c.as_slice-coefs.ensures, c.loop-before-test.true) in
    let small = c.requires.goal k (pos 0) within in
    let coef = ap (λ xs. to_z w64 (of_z w64 (get_or xs k (pos 0)))) c.as_slice-coefs.ensures
    ∙ to_z-of_z w64 (get_or cs k (pos 0)) (fits_signed_from_abs w64 (get_or cs k (pos 0)) (omega (arith, small))) in
    let made = stepped table cs k line in
    let is = ap (λ z. if_small (in_lowest_terms (with_added z (line_of table (k + 1)) line)) (λ l. Some l)) (sym coef)
    ∙ sym c.in_ok-next.ensures ∙ c.in-None.is in
    let large = if_small_none made (is_large_line made) is in
    let rest = goal_step table cs k line (goal_line table c.args.goal.now) within c.loop-before.invariant.rest in
    sym (ap (λ t. cond t None (goal_from table (k + 1 + 1) (drop (k + 1) cs) made)) large) ∙ rest

pub returns : goal.returns
returns c =
    let table = c.args.table.now in
    let cs = c.args.goal.now.coefs in
    let k = c.loop-before.before in
    let past = drop_past cs k (omega (arith, ap length c.as_slice-coefs.ensures, c.loop-before-test.false)) in
    sym (ap (λ ds. goal_from table (k + 1) ds c.loop-before.line) past) ∙ c.loop-before.invariant.rest
