-- One turn of the run, and what it says of the answer; the first table, one line more.
use Rattle.std.proofs.Common.{◌≡◌, ℕ, zero, suc, ◌+◌, ◌-◌, ◌<◌, Bool, true, false, cond, Option, Some, None, subst, List, [], ◌∷◌, ◌++◌, length, get_or, take, ap, sym, ◌∙◌, arith, add-one, pos}
use Rattle.std.specs.Prelude.{slice_get}
use Rattle.std.specs.List.{range_with_len}
use Rattle.nomos_forms.specs.declared.row.Row.{Row}
use Rattle.nomos_forms.specs.declared.row_list.RowList.{RowList}
use Rattle.std.proofs.lemmas.Option.{slice_get-get_or}
use Rattle.nomos_simplex.specs.Exchange.{exchanged, is_large_table}
use Rattle.nomos_simplex.specs.Exits.{fractions, found_or_large, verdict_of}
use Rattle.nomos_simplex.specs.mirror.Steps.{IsNotFound}
use Rattle.nomos_simplex.specs.LowestVariable.{leaving, entering}
use Rattle.nomos_simplex.specs.PivotRun.{turn, turn_from, turn_on, turn_at, turn_to, small_or_large, end_of, run}
use Rattle.nomos_simplex.specs.Tables.{lines_from}
use Rattle.nomos_simplex.specs.declared.solved.Solved.{Solved}
use Rattle.nomos_simplex.specs.declared.solved.Solved.TheVariants as solved
use Rattle.nomos_simplex.specs.declared.solved.Stop.TheVariants as stop
use Rattle.nomos_simplex.specs.declared.table.TableLine.{TableLine}
use Rattle.nomos_simplex.specs.declared.table.Table.{Table}
use Rattle.nomos_simplex.specs.declared.turn.PivotTurn.TheVariants.{Ends, Goes}

-- ---- a turn that exchanges
pub exchanges : (budget pivots left i j : ℕ) (rows : RowList) (table after : Table) (line : TableLine) →
    budget ≡ suc left → leaving rows table ≡ Some i → slice_get table.lines i ≡ Some line →
    entering table line ≡ Some j → after ≡ exchanged i j line table → turn budget pivots rows table ≡ small_or_large
    (pivots + 1) after
exchanges budget pivots left i j rows table after line b leaves there enters is =
    ap (λ n. turn n pivots rows table) b
    ∙ ap (turn_from (suc left) pivots rows table) leaves
    ∙ ap (turn_on (suc left) pivots rows table i) there
    ∙ ap (turn_at (suc left) pivots rows table i line) enters
    ∙ ap (small_or_large (pivots + 1)) (sym is)

pub stops_large : (pivots : ℕ) (table : Table) → is_large_table table ≡ true → small_or_large pivots table ≡ Ends
    (solved.Unsolved (stop.Large pivots))
stops_large pivots table e = ap (λ b. cond b (Ends (solved.Unsolved (stop.Large pivots))) (Goes table)) e

pub goes_small : (pivots : ℕ) (table : Table) → is_large_table table ≡ false → small_or_large pivots table ≡ Goes table
goes_small pivots table e = ap (λ b. cond b (Ends (solved.Unsolved (stop.Large pivots))) (Goes table)) e

-- ---- the run after a turn
pub run_ends : (budget pivots : ℕ) (rows : RowList) (table : Table) (s : Solved) →
    Ends s ≡ turn budget pivots rows table → run budget pivots rows table ≡ s
unfolding run
run_ends zero pivots rows table s e = ap (λ t. end_of t (λ _. solved.Unsolved stop.Pivots)) (sym e)
run_ends (suc budget) pivots rows table s e = ap (λ t. end_of t (run budget (pivots + 1) rows)) (sym e)

run_goes : (budget pivots : ℕ) (rows : RowList) (table after : Table) → Goes after ≡ turn (suc budget) pivots rows
    table → run (suc budget) pivots rows table ≡ run budget (pivots + 1) rows after
unfolding run
run_goes budget pivots rows table after e = ap (λ t. end_of t (run budget (pivots + 1) rows)) (sym e)

pub run_goes_on : (all pivots : ℕ) (rows : RowList) (table after : Table) → pivots < all →
    Goes after ≡ turn (all - pivots) pivots rows table → run (all - (pivots + 1)) (pivots + 1) rows after ≡ run
    (all - pivots) pivots rows table
run_goes_on all pivots rows table after h e =
    let left : all - pivots ≡ suc (all - (pivots + 1)) = omega arith in
    sym (ap (λ b. run b pivots rows table) left ∙ run_goes (all - (pivots + 1)) pivots rows table after (e
    ∙ ap (λ b. turn b pivots rows table) left))

pub run_stops : (pivots : ℕ) (rows : RowList) (table after : Table) → Goes after ≡ turn zero pivots rows table →
    run zero pivots rows table ≡ solved.Unsolved stop.Pivots
unfolding run
run_stops pivots rows table after e = ap (λ t. end_of t (λ _. solved.Unsolved stop.Pivots)) (sym e)

-- ---- where the run ends
pub run_stands : (budget pivots : ℕ) (rows : RowList) (table : Table) → leaving rows table ≡ None →
    found_or_large pivots (fractions rows table) ≡ run budget pivots rows table
run_stands budget pivots rows table e =
    sym (run_ends budget pivots rows table (found_or_large pivots (fractions rows table))
    (sym (ap (turn_from budget pivots rows table) e)))

not_found_to : (budget pivots i j : ℕ) (line : TableLine) (table : Table) (answer : Solved) →
    turn_to budget pivots i line table j ≡ Ends answer → IsNotFound answer
not_found_to zero pivots i j line table answer e =
    let is : solved.Unsolved stop.Pivots ≡ answer = cc in subst IsNotFound is tt
not_found_to (suc budget) pivots i j line table answer e =
    of_test (is_large_table (exchanged i j line table)) e
  where
    of_test : (t : Bool) →
        cond t (Ends (solved.Unsolved (stop.Large (pivots + 1)))) (Goes (exchanged i j line table)) ≡ Ends answer →
        IsNotFound answer
    of_test true h = let is : solved.Unsolved (stop.Large (pivots + 1)) ≡ answer = cc in subst IsNotFound is tt
    of_test false h = cc

not_found_at : (budget pivots i : ℕ) (rows : RowList) (table : Table) (line : TableLine) (o : Option ℕ)
    (answer : Solved) →
    turn_at budget pivots rows table i line o ≡ Ends answer → IsNotFound answer
not_found_at budget pivots i rows table line None answer e =
    let is : solved.Refuted (verdict_of rows table line) ≡ answer = cc in subst IsNotFound is tt
not_found_at budget pivots i rows table line (Some j) answer e =
    not_found_to budget pivots i j line table answer e

-- where a variable is below its bound, no turn ends with amounts
pub not_found : (budget pivots i : ℕ) (rows : RowList) (table : Table) (answer : Solved) →
    leaving rows table ≡ Some i → i < length table.lines → turn budget pivots rows table ≡ Ends answer →
    IsNotFound answer
not_found budget pivots i rows table answer e h t =
    let d : TableLine = record { times = pos 1; basic = 0; coefs = [] } in
    let line = get_or table.lines i d in
    not_found_at budget pivots i rows table line (entering table line) answer
    (sym (ap (turn_on budget pivots rows table i) (slice_get-get_or table.lines i d h))
    ∙ sym (ap (turn_from budget pivots rows table) e) ∙ t)

-- ---- the first table
pub range_more : (a n : ℕ) → range_with_len a (n + 1) ≡ range_with_len a n ++ (a + n) ∷ []
range_more a zero = let same : a ≡ a + zero = omega arith in ap (λ k. k ∷ []) same
range_more a (suc n) = rw add-one (ap (λ ks. a ∷ ks) (ap (range_with_len (a + 1)) (sym (add-one n))
    ∙ range_more (a + 1) n) ∙ let same : a + 1 + n ≡ a + suc n = omega arith in ap (λ k. (a ∷ range_with_len
    (a + 1) n) ++ k ∷ []) same)
