-- The unit of amounts that are found is at most 2^31.
use Rattle.std.proofs.Common.{◌≡◌, ℕ, zero, suc, ◌+◌, ◌≤◌, ◌^◌, ◌&&◌, Bool, true, false, cond, List, inl, inr, refl, subst, Option, Some, None}
use Rattle.std.proofs.lemmas.Bool.Decides.{leb_tells}
use Rattle.std.specs.Prelude.{nat_le, nat_lt, slice_get}
use Rattle.std.specs.List.{list_all}
use Rattle.nomos_forms.specs.Linear.{form_value}
use Rattle.nomos_forms.specs.declared.form.Form.{Form}
use Rattle.nomos_forms.specs.declared.found.Found.{Found}
use Rattle.nomos_forms.specs.declared.row_list.RowList.{RowList}
use Rattle.nomos_simplex.specs.Exchange.{exchanged, is_large_table}
use Rattle.nomos_simplex.specs.Exits.{common_denominator, amounts_over, fractions, found_or_large}
use Rattle.nomos_simplex.specs.LeastRun.{LeastRun, is_total, least_or_large}
use Rattle.nomos_simplex.specs.LowestVariable.{leaving, entering}
use Rattle.nomos_simplex.specs.PivotRun.{turn_to, turn_at, turn_on, turn_from, turn, end_of, run, answer_to}
use Rattle.nomos_simplex.specs.Tables.{first_table}
use Rattle.nomos_simplex.specs.declared.solved.Proof.{Proof}
use Rattle.nomos_simplex.specs.declared.solved.Solved.TheVariants as solved
use Rattle.nomos_simplex.specs.declared.solved.Solved.{Solved}
use Rattle.nomos_simplex.specs.declared.solved.SolvedLeast.TheVariants as least
use Rattle.nomos_simplex.specs.declared.solved.SolvedLeast.{SolvedLeast}
use Rattle.nomos_simplex.specs.declared.solved.Stop.TheVariants as stop
use Rattle.nomos_simplex.specs.declared.table.TableLine.{TableLine}
use Rattle.nomos_simplex.specs.declared.table.Table.{Table}
use Rattle.nomos_simplex.specs.declared.turn.PivotTurn.TheVariants.{Ends, Goes}
use Rattle.nomos_simplex.specs.declared.turn.PivotTurn.{PivotTurn}

-- amounts that are answered have a unit that is not too large
abbrev HasSmallUnit : Solved → Type 0
HasSmallUnit (solved.Found f) = f.unit ≤ 2 ^ 31
HasSmallUnit (solved.Refuted v) = Unit {0}
HasSmallUnit (solved.Unsolved s) = Unit {0}

abbrev EndsWithSmallUnit : PivotTurn → Type 0
EndsWithSmallUnit (Ends answer) = HasSmallUnit answer
EndsWithSmallUnit (Goes table) = Unit {0}

either_small : (f : Found) (pivots : ℕ) (small amounts : Bool) → nat_le f.unit (2 ^ 31) ≡ small →
    HasSmallUnit (cond (small && amounts) (solved.Found f) (solved.Unsolved (stop.Large pivots)))
either_small f pivots true true e =
    elim (leb_tells f.unit (2 ^ 31)) [ inl (test, low) ↦ low | inr (test, high) ↦ absurd cc ]
either_small f pivots true false e = tt
either_small f pivots false amounts e = tt

found_small : (pivots : ℕ) (fs : List (ℕ × ℕ)) → HasSmallUnit (found_or_large pivots fs)
found_small pivots fs =
    let unit = common_denominator 1 fs in
    either_small (record { stars = amounts_over unit fs; unit = unit }) pivots (nat_le unit (2 ^ 31))
    (list_all (λ x. nat_lt x (2 ^ 62)) (amounts_over unit fs)) refl

size_small : (pivots : ℕ) (table : Table) (large : Bool) →
    EndsWithSmallUnit (cond large (Ends (solved.Unsolved (stop.Large pivots))) (Goes table))
size_small pivots table true = tt
size_small pivots table false = tt

to_small : (budget pivots i : ℕ) (line : TableLine) (table : Table) (j : ℕ) →
    EndsWithSmallUnit (turn_to budget pivots i line table j)
to_small zero pivots i line table j = tt
to_small (suc budget) pivots i line table j =
    size_small (pivots + 1) (exchanged i j line table) (is_large_table (exchanged i j line table))

at_small : (budget pivots : ℕ) (rows : RowList) (table : Table) (i : ℕ) (line : TableLine) (o : Option ℕ) →
    EndsWithSmallUnit (turn_at budget pivots rows table i line o)
at_small budget pivots rows table i line None = tt
at_small budget pivots rows table i line (Some j) = to_small budget pivots i line table j

on_small : (budget pivots : ℕ) (rows : RowList) (table : Table) (i : ℕ) (o : Option TableLine) →
    EndsWithSmallUnit (turn_on budget pivots rows table i o)
on_small budget pivots rows table i None = found_small pivots (fractions rows table)
on_small budget pivots rows table i (Some line) = at_small budget pivots rows table i line (entering table line)

from_small : (budget pivots : ℕ) (rows : RowList) (table : Table) (o : Option ℕ) →
    EndsWithSmallUnit (turn_from budget pivots rows table o)
from_small budget pivots rows table None = found_small pivots (fractions rows table)
from_small budget pivots rows table (Some i) = on_small budget pivots rows table i (slice_get table.lines i)

end_small : (t : PivotTurn) (go_on : Table → Solved) → EndsWithSmallUnit t →
    ((table : Table) → HasSmallUnit (go_on table)) → HasSmallUnit (end_of t go_on)
end_small (Ends answer) go_on h after = h
end_small (Goes table) go_on h after = after table

run_small : (budget pivots : ℕ) (rows : RowList) (table : Table) → HasSmallUnit (run budget pivots rows table)
unfolding run
run_small zero pivots rows table =
    end_small (turn zero pivots rows table) (λ _. solved.Unsolved stop.Pivots)
    (from_small zero pivots rows table (leaving rows table)) (λ after. tt)
run_small (suc budget) pivots rows table =
    end_small (turn (suc budget) pivots rows table) (run budget (pivots + 1) rows)
    (from_small (suc budget) pivots rows table (leaving rows table)) (λ after. run_small budget (pivots + 1) rows after)

-- the unit of amounts that are answered to rows
pub found-unit : (rows : RowList) (f : Found) → answer_to rows ≡ solved.Found f → f.unit ≤ 2 ^ 31
found-unit rows f e = subst HasSmallUnit e (run_small 2000 0 rows (first_table rows))

-- ---- the least run

abbrev HasSmallLeastUnit : SolvedLeast → Type 0
HasSmallLeastUnit (least.Found f proof) = f.unit ≤ 2 ^ 31
HasSmallLeastUnit (least.Refuted v) = Unit {0}
HasSmallLeastUnit (least.Unsolved s) = Unit {0}

total_small : (pivots : ℕ) (f : Found) (proof : Proof) (total : Bool) → f.unit ≤ 2 ^ 31 →
    HasSmallLeastUnit (cond total (least.Found f proof) (least.Unsolved (stop.Large pivots)))
total_small pivots f proof true small = small
total_small pivots f proof false small = tt

end_least_small : (pivots : ℕ) (rows : RowList) (goal : Form) (table : Table) (line : TableLine) (answer : Solved) →
    HasSmallUnit answer → HasSmallLeastUnit (least_or_large pivots rows goal table line answer)
end_least_small pivots rows goal table line (solved.Found f) small =
    total_small pivots f _ (is_total (form_value f.stars f.unit goal)) small
end_least_small pivots rows goal table line (solved.Refuted v) small = tt
end_least_small pivots rows goal table line (solved.Unsolved s) small = tt

least_small : (rows : RowList) (goal : Form) (answer : SolvedLeast) → LeastRun rows goal answer →
    HasSmallLeastUnit answer
least_small rows goal answer (LeastRun.refuted v e) = tt
least_small rows goal answer (LeastRun.stopped s e) = tt
least_small rows goal answer (LeastRun.large_goal pivots table ends e) = tt
least_small rows goal answer (LeastRun.ends pivots table line l e) =
    end_least_small pivots rows goal table line (found_or_large pivots (fractions rows table))
    (found_small pivots (fractions rows table))
least_small rows goal answer (LeastRun.pivots_made table line i j left l x) = tt
least_small rows goal answer (LeastRun.large pivots table line i j left l x most e) = tt

-- the unit of amounts that the least run finds
pub least-unit : (rows : RowList) (goal : Form) (f : Found) (proof : Proof) →
    LeastRun rows goal (least.Found f proof) → f.unit ≤ 2 ^ 31
least-unit rows goal f proof run = least_small rows goal (least.Found f proof) run
