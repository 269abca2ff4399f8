-- A turn of the run, by what is kept of its table.
use Rattle.std.proofs.Common.{◌≡◌, ℕ, zero, length, get_or, ap, ◌∙◌, pos, int_lt, Some, None}
use Rattle.std.specs.Prelude.{slice_get}
use Rattle.std.proofs.lemmas.Option.{slice_get_within}
use Rattle.nomos_forms.specs.declared.row_list.RowList.{RowList}
use Rattle.nomos_simplex.specs.Exits.{verdict_of}
use Rattle.nomos_simplex.specs.LowestVariable.{lowest_place, leaving, entering}
use Rattle.nomos_simplex.specs.PivotRun.{turn, turn_from, turn_on, turn_at}
use Rattle.nomos_simplex.specs.mirror.Classes.{StandsFor, Lead, IsChosen}
use Rattle.nomos_simplex.specs.mirror.Steps.{IsNotFound}
use Rattle.nomos_simplex.specs.declared.choosing.Choice.{Choice}
use Rattle.nomos_simplex.specs.declared.choosing.Choice.TheVariants as choice
use Rattle.nomos_simplex.specs.declared.classes.Classes.{Classes}
use Rattle.nomos_simplex.specs.declared.solved.Solved.{Solved}
use Rattle.nomos_simplex.specs.declared.solved.Solved.TheVariants as solved
use Rattle.nomos_simplex.specs.declared.solved.Stop.TheVariants as stop
use Rattle.nomos_simplex.specs.declared.table.TableLine.{TableLine}
use Rattle.nomos_simplex.specs.declared.table.Table.{Table}
use Rattle.nomos_simplex.specs.declared.turn.PivotTurn.TheVariants.{Ends}
use Rattle.nomos_simplex.proofs.ClassChoiceLemmas.{line_leaves, column_leaves}
use Rattle.nomos_simplex.proofs.SolveLemmas.{not_found}
use Rattle.nomos_simplex.proofs.TableLaws.{IsTableOfRows}

-- ---- what the nonbasic variables alone say
pub entering-same : (a b : Table) (line : TableLine) → a.nonbasic ≡ b.nonbasic → entering a line ≡ entering b line
entering-same a b line e = λ p.
    lowest_place (λ j. int_lt (pos 0) (get_or line.coefs j (pos 0))) (λ j. get_or (e p) j 0) (length (e p))

pub verdict-same : (rows : RowList) (a b : Table) (line : TableLine) → a.nonbasic ≡ b.nonbasic →
    verdict_of rows a line ≡ verdict_of rows b line
verdict-same rows a b line e = λ p. verdict_of rows (record { nonbasic = e p; lines = a.lines }) line

-- ---- the ends of a turn at which a variable leaves
pub turn-refuted : (budget pivots k : ℕ) (rows : RowList) (full : Table) (left : TableLine) →
    leaving rows full ≡ Some k → slice_get full.lines k ≡ Some left → entering full left ≡ None →
    turn budget pivots rows full ≡ Ends (solved.Refuted (verdict_of rows full left))
turn-refuted budget pivots k rows full left leaves at enters =
    ap (turn_from budget pivots rows full) leaves
    ∙ ap (turn_on budget pivots rows full k) at
    ∙ ap (turn_at budget pivots rows full k left) enters

pub turn-spent : (pivots k j : ℕ) (rows : RowList) (full : Table) (left : TableLine) →
    leaving rows full ≡ Some k → slice_get full.lines k ≡ Some left → entering full left ≡ Some j →
    turn zero pivots rows full ≡ Ends (solved.Unsolved stop.Pivots)
turn-spent pivots k j rows full left leaves at enters =
    ap (turn_from zero pivots rows full) leaves
    ∙ ap (turn_on zero pivots rows full k) at
    ∙ ap (turn_at zero pivots rows full k left) enters

-- ---- where a variable leaves, no turn ends with amounts
pub choice-not_found : (budget pivots : ℕ) (rows : RowList) (table : Table) (classes : Classes) (full : Table)
    (chosen : Choice) (answer : Solved) → IsTableOfRows rows full → StandsFor rows table classes full →
    Lead rows table classes → IsChosen rows table classes (Some chosen) →
    turn budget pivots rows full ≡ Ends answer → IsNotFound answer
choice-not_found budget pivots rows table classes full (choice.Line i) answer t s l c e =
    let at = line_leaves rows table classes full i t s l c.0 c.1 c.2 in
    not_found budget pivots at.0 rows full answer at.1 (slice_get_within full.lines at.0 _ at.2) e
choice-not_found budget pivots rows table classes full (choice.Column j) answer t s l c e =
    let at = column_leaves rows table classes full j t s l c.0 c.1 c.2 in
    not_found budget pivots at.0 rows full answer at.1 (slice_get_within full.lines at.0 _ at.2) e
