-- What the pivot run answers: amounts that meet the rows, or a verdict that refutes them.
use Rattle.std.proofs.Common.{◌≡◌, ℕ, zero, suc, ◌+◌, Bool, true, false, cond, [], length, map, get_or, ap, sym, refl, subst, ◌∙◌, arith, ℤ, pos, Option, Some, None}
use Rattle.std.specs.Prelude.{int_lt, slice_get}
use Rattle.std.proofs.lemmas.Int.{ints}
use Rattle.std.proofs.lemmas.List.{get_or-map}
use Rattle.std.proofs.lemmas.Option.{slice_get-get_or, get_or_from_slice_get}
use borrow.Author.Differences.{lt-true}
use Rattle.nomos_forms.specs.Bounds.{IsFound, IsVerdict}
use Rattle.nomos_forms.specs.Meeting.{MeetsRows}
use Rattle.nomos_forms.specs.Refuting.{Refutes}
use Rattle.nomos_forms.specs.declared.found.Found.{Found}
use Rattle.nomos_forms.specs.declared.row_list.RowList.{RowList}
use Rattle.nomos_forms.specs.declared.verdict.Verdict.{Verdict}
use Rattle.nomos_simplex.specs.Exchange.{exchanged, is_large_table}
use Rattle.nomos_simplex.specs.LowestVariable.{is_below, leaving, entering}
use Rattle.nomos_simplex.specs.PivotRun.{turn_to, turn_at, turn_on, turn_from, turn, end_of, run, answer_to}
use Rattle.nomos_simplex.specs.Tables.{first_table}
use Rattle.nomos_simplex.specs.declared.solved.Solved.TheVariants as solved
use Rattle.nomos_simplex.specs.declared.solved.Solved.{Solved}
use Rattle.nomos_simplex.specs.declared.solved.Stop.TheVariants as stop
use Rattle.nomos_simplex.specs.declared.table.TableLine.{TableLine}
use Rattle.nomos_simplex.specs.declared.table.Table.{Table}
use Rattle.nomos_simplex.specs.declared.turn.PivotTurn.TheVariants.{Ends, Goes}
use Rattle.nomos_simplex.specs.declared.turn.PivotTurn.{PivotTurn}
use Rattle.nomos_simplex.proofs.ExchangedLemmas.{MayExchange}
use Rattle.nomos_simplex.proofs.ExitLemmas.{IsRightFor, found_exit, verdict_exit}
use Rattle.nomos_simplex.proofs.PlaceLemmas.{place_passes}
use Rattle.nomos_simplex.proofs.TableLaws.{IsTableOfRows, first-is_table, exchanged-is_table}

-- a turn ends by a right answer, or goes on at a table of the rows
abbrev pub IsRightTurn : RowList → PivotTurn → Type 0
IsRightTurn rows (Ends answer) = IsRightFor rows answer
IsRightTurn rows (Goes table) = IsTableOfRows rows table

-- ---- a turn
goes_or_large : (rows : RowList) (pivots : ℕ) (table : Table) (t : Bool) → is_large_table table ≡ t →
    (is_large_table table ≡ false → IsTableOfRows rows table) →
    IsRightTurn rows (cond t (Ends (solved.Unsolved (stop.Large pivots))) (Goes table))
goes_or_large rows pivots table true e h = tt
goes_or_large rows pivots table false e h = h e

not_zero_positive : (c : ℤ) → int_lt (pos 0) c ≡ true → ¬ (c ≡ pos 0)
not_zero_positive c h e = omega (arith, ints, lt-true (pos 0) c h)

right_to : (budget pivots : ℕ) (rows : RowList) (i : ℕ) (line : TableLine) (table : Table) (j : ℕ) →
    IsTableOfRows rows table → MayExchange i j line table → IsRightTurn rows (turn_to budget pivots i line table j)
right_to zero pivots rows i line table j t m = tt
right_to (suc budget) pivots rows i line table j t m =
    goes_or_large rows (pivots + 1) (exchanged i j line table) (is_large_table (exchanged i j line table)) refl
    (λ small. exchanged-is_table rows i j line table m small t)

right_at : (budget pivots : ℕ) (rows : RowList) (table : Table) (i : ℕ) (line : TableLine) (o : Option ℕ) →
    IsTableOfRows rows table → slice_get table.lines i ≡ Some line → is_below rows table.nonbasic line ≡ true →
    entering table line ≡ o → IsRightTurn rows (turn_at budget pivots rows table i line o)
right_at budget pivots rows table i line None t p b e =
    verdict_exit rows table i line t (record { place = p; below = b; none = e })
right_at budget pivots rows table i line (Some j) t p b e =
    let both =
    place_passes (λ j. int_lt (pos 0) (get_or line.coefs j (pos 0))) (λ j. get_or table.nonbasic j 0)
    (length table.nonbasic) j e in
    right_to budget pivots rows i line table j t
    (record {
      place = p;
      column = both.0;
      coef = not_zero_positive (get_or line.coefs j (pos 0)) both.1;
      lines =
          t.lines;
    })

right_on : (budget pivots : ℕ) (rows : RowList) (table : Table) (i : ℕ) (o : Option TableLine)
    → IsTableOfRows rows table →
    leaving rows table ≡ Some i → slice_get table.lines i ≡ o → IsRightTurn rows (turn_on budget pivots rows table i o)
right_on budget pivots rows table i None t e g =
    let both =
    place_passes (λ i. get_or (map (is_below rows table.nonbasic) table.lines) i false)
    (λ i. get_or (map (λ line. line.basic) table.lines) i 0) (length table.lines) i e in
    let d : TableLine = record { times = pos 1; basic = 0; coefs = [] } in
    absurd (no_line (get_or table.lines i d) (sym (slice_get-get_or table.lines i d both.0) ∙ g))
  where
    no_line : (line : TableLine) → Some line ≡ None → ⊥
    no_line line e = cc
right_on budget pivots rows table i (Some line) t e g =
    let both =
    place_passes (λ i. get_or (map (is_below rows table.nonbasic) table.lines) i false)
    (λ i. get_or (map (λ line. line.basic) table.lines) i 0) (length table.lines) i e in
    let here = get_or_from_slice_get table.lines i line line g in
    let below : is_below rows table.nonbasic line ≡ true = ap (is_below rows table.nonbasic) (sym here)
    ∙ sym (get_or-map (is_below rows table.nonbasic) table.lines i line false both.0) ∙ both.1 in
    right_at budget pivots rows table i line (entering table line) t g below refl

right_from : (budget pivots : ℕ) (rows : RowList) (table : Table) (o : Option ℕ) → IsTableOfRows rows table →
    leaving rows table ≡ o → IsRightTurn rows (turn_from budget pivots rows table o)
right_from budget pivots rows table None t e = found_exit pivots rows table t e
right_from budget pivots rows table (Some i) t e =
    right_on budget pivots rows table i (slice_get table.lines i) t e refl

-- a turn at a table of the rows ends by a right answer, or goes on at a table of the rows
pub turn-is_right : (budget pivots : ℕ) (rows : RowList) (table : Table) → IsTableOfRows rows table →
    IsRightTurn rows (turn budget pivots rows table)
turn-is_right budget pivots rows table t = right_from budget pivots rows table (leaving rows table) t refl

-- each table that the run goes on at
pub turn-goes_on : (budget pivots : ℕ) (rows : RowList) (table after : Table) → IsTableOfRows rows table →
    turn budget pivots rows table ≡ Goes after → IsTableOfRows rows after
turn-goes_on budget pivots rows table after t e = subst (IsRightTurn rows) e (turn-is_right budget pivots rows table t)

-- ---- the run
end_right : (rows : RowList) (turn : PivotTurn) (go_on : Table → Solved) → IsRightTurn rows turn →
    ((table : Table) → IsTableOfRows rows table → IsRightFor rows (go_on table)) → IsRightFor rows (end_of turn go_on)
end_right rows (Ends answer) go_on h after = h
end_right rows (Goes table) go_on h after = after table h

pub run-is_right : (budget pivots : ℕ) (rows : RowList) (table : Table) → IsTableOfRows rows table →
    IsRightFor rows (run budget pivots rows table)
unfolding run
run-is_right zero pivots rows table t =
    end_right rows (turn zero pivots rows table) (λ _. solved.Unsolved stop.Pivots)
    (turn-is_right zero pivots rows table t) (λ after h. tt)
run-is_right (suc budget) pivots rows table t =
    end_right rows (turn (suc budget) pivots rows table) (run budget (pivots + 1) rows)
    (turn-is_right (suc budget) pivots rows table t) (λ after h. run-is_right budget (pivots + 1) rows after h)

pub run-found : (budget pivots : ℕ) (rows : RowList) (table : Table) (f : Found) → IsTableOfRows rows table →
    run budget pivots rows table ≡ solved.Found f → MeetsRows f.stars f.unit rows.rows × IsFound rows.stars f
run-found budget pivots rows table f t e = subst (IsRightFor rows) e (run-is_right budget pivots rows table t)

pub run-refutes : (budget pivots : ℕ) (rows : RowList) (table : Table) (v : Verdict) → IsTableOfRows rows table →
    run budget pivots rows table ≡ solved.Refuted v → Refutes rows.stars rows.rows v × IsVerdict v
run-refutes budget pivots rows table v t e = subst (IsRightFor rows) e (run-is_right budget pivots rows table t)

-- the answer to rows
pub answer-found : (rows : RowList) (f : Found) → answer_to rows ≡ solved.Found f →
    MeetsRows f.stars f.unit rows.rows × IsFound rows.stars f
answer-found rows f e = run-found 2000 0 rows (first_table rows) f (first-is_table rows) e

pub answer-refutes : (rows : RowList) (v : Verdict) → answer_to rows ≡ solved.Refuted v →
    Refutes rows.stars rows.rows v × IsVerdict v
answer-refutes rows v e = run-refutes 2000 0 rows (first_table rows) v (first-is_table rows) e
