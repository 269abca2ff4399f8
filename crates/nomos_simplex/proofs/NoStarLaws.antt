-- Without a star neither the pivot run nor the least run stops.
use Rattle.std.proofs.Common.{◌≡◌, ◌-◌, ℕ, Bool, true, false, List, [], length, map, pos, Option, Some, None, slice_get, cond, refl, ap, sym, subst, ◌∙◌}
use Rattle.std.proofs.lemmas.Option.{none-some}
use Rattle.std.specs.Prelude.{int_lt, slice_index, slice_index_or}
use Rattle.std.specs.List.{range_with_len}
use Rattle.nomos_forms.specs.Linear.{form_value}
use Rattle.nomos_forms.specs.declared.form.Form.{Form}
use Rattle.nomos_forms.specs.declared.found.Found.{Found}
use Rattle.nomos_forms.specs.declared.row_list.RowList.{RowList}
use Rattle.nomos_simplex.specs.Exits.{fractions, fraction_of, found_or_large}
use Rattle.nomos_simplex.specs.GoalLine.{goal_from, no_goal}
use Rattle.nomos_simplex.specs.LeastRun.{PivotsTo, Lowers, LeastRun, is_total, least_or_large}
use Rattle.nomos_simplex.specs.LowestVariable.{leaving, entering, lowest_place}
use Rattle.nomos_simplex.specs.Nearest.{lowering}
use Rattle.nomos_simplex.specs.PivotRun.{turn, turn_at, turn_on, turn_from, end_of, run, answer_to}
use Rattle.nomos_simplex.specs.Tables.{first_table}
use Rattle.nomos_simplex.specs.declared.solved.Proof.{Proof}
use Rattle.nomos_simplex.specs.declared.solved.Solved.{Solved}
use Rattle.nomos_simplex.specs.declared.solved.Solved.TheVariants as solved
use Rattle.nomos_simplex.specs.declared.solved.SolvedLeast.{SolvedLeast}
use Rattle.nomos_simplex.specs.declared.solved.SolvedLeast.TheVariants as least
use Rattle.nomos_simplex.specs.declared.solved.Stop.{Stop}
use Rattle.nomos_simplex.specs.declared.table.TableLine.{TableLine}
use Rattle.nomos_simplex.specs.declared.table.Table.{Table}
use Rattle.nomos_simplex.specs.declared.turn.PivotTurn.{PivotTurn}
use Rattle.nomos_simplex.specs.declared.turn.PivotTurn.TheVariants.{Ends, Goes}

-- the turn ends with an answer
abbrev IsAnswered : PivotTurn → Type 0
IsAnswered (Ends (solved.Found found)) = Unit {0}
IsAnswered (Ends (solved.Refuted verdict)) = Unit {0}
IsAnswered (Ends (solved.Unsolved stop)) = ⊥
IsAnswered (Goes table) = ⊥

-- there is nothing to say of stars
no-fractions : (rows : RowList) (table : Table) → rows.stars ≡ 0 → fractions rows table ≡ []
no-fractions rows table none = ap (λ n. map (fraction_of rows table) (range_with_len 1 n)) none

-- no variable may enter
no-entering : (rows : RowList) (line : TableLine) → rows.stars ≡ 0 → entering (first_table rows) line ≡ None
no-entering rows line none =
    ap (λ n. lowest_place (λ j. int_lt (pos 0) (slice_index_or line.coefs j (pos 0)))
    (λ j. slice_index (range_with_len 1 rows.stars) j) n) (ap (λ n. length (range_with_len 1 n)) none)

found-answered : (fs : List (ℕ × ℕ)) → fs ≡ [] → IsAnswered (Ends (found_or_large 0 fs))
found-answered fs none = subst (λ (gs : List (ℕ × ℕ)). IsAnswered (Ends (found_or_large 0 gs))) (sym none) tt

answered-on : (rows : RowList) (i : ℕ) (line : Option TableLine) → rows.stars ≡ 0
    → IsAnswered (turn_on 2000 0 rows (first_table rows) i line)
answered-on rows i None none =
    found-answered (fractions rows (first_table rows)) (no-fractions rows (first_table rows) none)
answered-on rows i (Some line) none =
    subst (λ (j : Option ℕ). IsAnswered (turn_at 2000 0 rows (first_table rows) i line j))
    (sym (no-entering rows line none)) tt

answered-from : (rows : RowList) (place : Option ℕ) → rows.stars ≡ 0
    → IsAnswered (turn_from 2000 0 rows (first_table rows) place)
answered-from rows None none =
    found-answered (fractions rows (first_table rows)) (no-fractions rows (first_table rows) none)
answered-from rows (Some i) none = answered-on rows i (slice_get (first_table rows).lines i) none

-- a turn that ends with an answer does not stop
ends-answered : (turn : PivotTurn) (go_on : Table → Solved) (stop : Stop) → IsAnswered turn
    → ¬ (end_of turn go_on ≡ solved.Unsolved stop)
ends-answered (Ends (solved.Found found)) go_on stop h = λ e. cc
ends-answered (Ends (solved.Refuted verdict)) go_on stop h = λ e. cc
ends-answered (Ends (solved.Unsolved s)) go_on stop h = absurd h
ends-answered (Goes table) go_on stop h = absurd h

pub no_stars-answer : (rows : RowList) (stop : Stop) → rows.stars ≡ 0 → ¬ (answer_to rows ≡ solved.Unsolved stop)
unfolding run
no_stars-answer rows stop none =
    ends-answered (turn_from 2000 0 rows (first_table rows) (leaving rows (first_table rows))) _ stop
    (answered-from rows (leaving rows (first_table rows)) none)

-- ---- the least run
goes-nowhere : (turn : PivotTurn) (after : Table) → IsAnswered turn → turn ≡ Goes after → ⊥
goes-nowhere (Ends answer) after h e = absurd cc
goes-nowhere (Goes table) after h e = absurd h

-- the pivot run stays at the first table
reached-first : (rows : RowList) (n : ℕ) (t : Table) → rows.stars ≡ 0 → PivotsTo rows n t
    → (n ≡ 0) × (t ≡ first_table rows)
reached-first rows n t none PivotsTo.at_first = (refl, refl)
reached-first rows n t none (PivotsTo.goes_on {pivots = p} {table = earlier} after r is) =
    let before = reached-first rows p earlier none r in
    let goes : turn 2000 0 rows (first_table rows) ≡ Goes after =
    ap (λ k. turn (2000 - k) k rows (first_table rows)) (sym before.0)
    ∙ ap (λ x. turn (2000 - p) p rows x) (sym before.1) ∙ is in
    absurd (goes-nowhere _ after (answered-from rows (leaving rows (first_table rows)) none) goes)

-- no variable may enter there to lower a goal
no-lowering : (rows : RowList) (line : TableLine) → rows.stars ≡ 0 → lowering (first_table rows) line ≡ None
no-lowering rows line none =
    ap (λ n. lowest_place (λ j. int_lt (slice_index_or line.coefs j (pos 0)) (pos 0))
    (λ j. slice_index (range_with_len 1 rows.stars) j) n) (ap (λ n. length (range_with_len 1 n)) none)

none-lowers : (rows : RowList) (t : Table) (l : TableLine) (j : ℕ) → rows.stars ≡ 0 → t ≡ first_table rows →
    lowering t l ≡ Some j → ⊥
none-lowers rows t l j none first column =
    none-some j (sym (no-lowering rows l none) ∙ ap (λ x. lowering x l) (sym first) ∙ column)

lowered-first : (rows : RowList) (goal : Form) (n : ℕ) (t : Table) (l : TableLine) → rows.stars ≡ 0
    → Lowers rows goal n t l → t ≡ first_table rows
lowered-first rows goal n t l none (Lowers.begins ends e) = (reached-first rows n t none ends.reaches).1
lowered-first rows goal n t l none
    (Lowers.goes_on {pivots = p} {table = earlier} {line = own} i j left d x most small) =
    absurd (none-lowers rows earlier own j none (lowered-first rows goal p earlier own none d) x.column)

-- the answer is no stop
abbrev IsAnsweredLeast : SolvedLeast → Type 0
IsAnsweredLeast (least.Found found proof) = Unit {0}
IsAnsweredLeast (least.Refuted verdict) = Unit {0}
IsAnsweredLeast (least.Unsolved stop) = ⊥

chosen : (b : Bool) (f : Found) (proof : Proof) (stop : Stop) → b ≡ true
    → IsAnsweredLeast (cond b (least.Found f proof) (least.Unsolved stop))
chosen true f proof stop e = tt
chosen false f proof stop e = absurd cc

totalled : (n : ℕ) (rows : RowList) (goal : Form) (t : Table) (l : TableLine) (fs : List (ℕ × ℕ)) → fs ≡ []
    → is_total (form_value [] 1 goal) ≡ true
    → IsAnsweredLeast (least_or_large n rows goal t l (found_or_large n fs))
totalled n rows goal t l fs none total =
    subst (λ (gs : List (ℕ × ℕ)). IsAnsweredLeast (least_or_large n rows goal t l (found_or_large n gs))) (sym none)
    (chosen (is_total (form_value [] 1 goal)) _ _ _ total)

answered-least : (rows : RowList) (goal : Form) (a : SolvedLeast) → rows.stars ≡ 0 → goal.coefs ≡ []
    → is_total (form_value [] 1 goal) ≡ true → LeastRun rows goal a → IsAnsweredLeast a
answered-least rows goal a none empty total (LeastRun.refuted verdict e) = tt
answered-least rows goal a none empty total (LeastRun.stopped s e) = no_stars-answer rows s none e
answered-least rows goal a none empty total (LeastRun.large_goal n t ends lacks) =
    none-some (no_goal t) (sym lacks ∙ ap (λ cs. goal_from t 1 cs (no_goal t)) empty)
answered-least rows goal a none empty total (LeastRun.ends n t l d lowest) =
    totalled n rows goal t l (fractions rows t) (no-fractions rows t none) total
answered-least rows goal a none empty total (LeastRun.pivots_made t l i j left d x) =
    none-lowers rows t l j none (lowered-first rows goal 2000 t l none d) x.column
answered-least rows goal a none empty total (LeastRun.large n t l i j left d x most large) =
    none-lowers rows t l j none (lowered-first rows goal n t l none d) x.column

-- without a star the least run does not stop, where the goal is no more than it may be
pub no_stars-least : (rows : RowList) (goal : Form) (stop : Stop) → rows.stars ≡ 0 → goal.coefs ≡ []
    → is_total (form_value [] 1 goal) ≡ true → ¬ (LeastRun rows goal (least.Unsolved stop))
no_stars-least rows goal stop none empty total = λ run. answered-least rows goal _ none empty total run
