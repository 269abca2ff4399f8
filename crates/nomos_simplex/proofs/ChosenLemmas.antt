-- What leaves by classes: the choice among the lines, and among the columns.
use Rattle.std.proofs.Common.{◌≡◌, ℕ, ◌+◌, ◌<◌, ◌≤◌, true, length, sym, arith, Option, Some, None}
use Rattle.std.specs.Prelude.{nat_lt}
use Rattle.std.proofs.lemmas.Bool.{ltb-true, ltb-false, lt-ltb}
use Rattle.nomos_forms.specs.declared.row_list.RowList.{RowList}
use Rattle.nomos_simplex.specs.LowestVariable.{lowest_place, is_below, leaving}
use Rattle.nomos_simplex.specs.Nearest.{line_at}
use Rattle.nomos_simplex.specs.mirror.Classes.{IsFollowed, IsChosen, NoneIsBelow, class_at, column_at}
use Rattle.nomos_simplex.specs.declared.choosing.Choice.TheVariants as choice
use Rattle.nomos_simplex.specs.declared.classes.Classes.{Classes}
use Rattle.nomos_simplex.specs.declared.table.Table.{Table}
use Rattle.nomos_simplex.proofs.ClassChoiceLemmas.{leaves, none_below_at}
use Rattle.nomos_simplex.proofs.PlaceLemmas.{none_passes, place_passes, lowest-at_most}

-- the column that is found
pub is_followed : (table : Table) (classes : Classes) (o : Option ℕ) →
    o ≡ lowest_place (λ j. nat_lt (column_at table j) (class_at classes.columns j).last) (λ j. column_at table j)
    (length table.nonbasic) → IsFollowed table classes (length table.nonbasic) o
is_followed table classes None e =
    let passes = λ (j : ℕ). nat_lt (column_at table j) (class_at classes.columns j).last in
    λ j l. ltb-false (column_at table j) (class_at classes.columns j).last
    (none_passes passes (λ j. column_at table j) (length table.nonbasic) (sym e) j l)
is_followed table classes (Some j) e =
    let number = λ (k : ℕ). column_at table k in
    let last = λ (k : ℕ). (class_at classes.columns k).last in
    let passes = λ (k : ℕ). nat_lt (number k) (last k) in
    let at = place_passes passes number (length table.nonbasic) j (sym e) in (
      at.0,
      ltb-true (number j) (last j) at.1,
      λ k l h.
          lowest-at_most passes number (length table.nonbasic) j (sym e) k l (lt-ltb (number k) (last k) h),
    )

-- ---- the one or the other
pub line_chosen : (rows : RowList) (table : Table) (classes : Classes) (i : ℕ) → leaving rows table ≡ Some i →
    ((j : ℕ) → j < length table.nonbasic → column_at table j < (class_at classes.columns j).last →
    (line_at table.lines i).basic ≤ column_at table j + 1) → IsChosen rows table classes (Some (choice.Line i))
line_chosen rows table classes i e h =
    let l = leaves rows table i e in
    (l.within, l.below, record { lines = l.least; columns = h })

pub column_chosen : (rows : RowList) (table : Table) (classes : Classes) (j : ℕ) →
    IsFollowed table classes (length table.nonbasic) (Some j) →
    ((i : ℕ) → i < length table.lines → is_below rows table.nonbasic (line_at table.lines i) ≡ true →
    column_at table j + 1 ≤ (line_at table.lines i).basic) → IsChosen rows table classes (Some (choice.Column j))
column_chosen rows table classes j f h =
    (f.0, f.1, record { lines = h; columns = λ k l m. omega (arith, f.2 k l m) })

pub none_chosen : (rows : RowList) (table : Table) (classes : Classes) → leaving rows table ≡ None →
    IsFollowed table classes (length table.nonbasic) None → NoneIsBelow rows table classes
none_chosen rows table classes e f = record { lines = none_below_at rows table e; columns = f }
