-- A mirror of the code: variables whose lines are equal at all times share one line. No promise stands on it.
use Rattle.std.specs.Prelude.{◌≡◌, ◌⊎◌, ◌+◌, ◌-◌, ◌<◌, ◌≤◌, true, false, ℕ, ℤ, ◌<ℤ◌, List, [], ◌∷◌, ◌++◌, length, map, pos, remove, slice_index_or, slice_set, slice_get, Option, Some, None, All}
use Rattle.std.specs.List.{range_with_len}
use Rattle.nomos_forms.specs.Bounds.{IsForm}
use Rattle.nomos_forms.specs.declared.form.Form.{Form}
use Rattle.nomos_forms.specs.declared.row.Row.{Row}
use Rattle.nomos_forms.specs.declared.row_list.RowList.{RowList}
use Rattle.nomos_simplex.specs.Exchange.{is_large_table}
use Rattle.nomos_simplex.specs.GoalLine.{line_of}
use Rattle.nomos_simplex.specs.LeastRun.{PivotsTo, Lowers}
use Rattle.nomos_simplex.specs.LowestVariable.{is_below}
use Rattle.nomos_simplex.specs.Nearest.{line_at}
use Rattle.nomos_simplex.specs.Sizes.{IsVariable}
use Rattle.nomos_simplex.specs.Tables.{bound_of}
use Rattle.nomos_simplex.specs.mirror.Keeping.{Shows}
use Rattle.nomos_simplex.specs.declared.choosing.Choice.{Choice}
use Rattle.nomos_simplex.specs.declared.choosing.Choice.TheVariants as choice
use Rattle.nomos_simplex.specs.declared.classes.Class.{Class}
use Rattle.nomos_simplex.specs.declared.classes.Classed.{Classed}
use Rattle.nomos_simplex.specs.declared.classes.Classes.{Classes}
use Rattle.nomos_simplex.specs.declared.table.TableLine.{TableLine}
use Rattle.nomos_simplex.specs.declared.table.Table.{Table}
use Rattle.nomos_simplex.specs.declared.turn.PivotTurn.{PivotTurn}
use Rattle.nomos_simplex.specs.declared.turn.PivotTurn.TheVariants.{Ends, Goes}
use Rattle.nomos_simplex.specs.declared.turning.Next.{Next}
use Rattle.nomos_simplex.specs.declared.turning.Next.TheVariants as next

-- ---- classes
-- a variable is in a class
pub record IsIn (class : Class) (v : ℕ) : Type 0 where
  pub from : class.first ≤ v
  pub to : v ≤ class.last

-- the coefficients of a row's variable, none of another
abbrev pub coefs_or_none : Option Row → List ℤ
coefs_or_none (Some row) = row.coefs
coefs_or_none None = []

abbrev pub coefs_of : RowList → ℕ → List ℤ
coefs_of rows v = coefs_or_none (slice_get rows.rows (v - rows.stars - 1))

-- the row after that of a variable has the same coefficients, and is at least more
pub record IsAlike (rows : RowList) (v : ℕ) : Type 0 where
  pub row : rows.stars < v
  pub coefs : coefs_of rows (v + 1) ≡ coefs_of rows v
  pub more : bound_of rows v <ℤ bound_of rows (v + 1)

-- variables of the rows, each alike with the next
pub record IsClass (rows : RowList) (class : Class) : Type 0 where
  pub least : 1 ≤ class.first
  pub some : class.first ≤ class.last
  pub most : class.last ≤ rows.stars + length rows.rows
  pub alike : (v : ℕ) → class.first ≤ v → v < class.last → IsAlike rows v

-- a star is alone
abbrev pub class_of_star : ℕ → Class
class_of_star star = record { first = star; last = star }

-- the class at a place
abbrev pub class_at : List Class → ℕ → Class
class_at classes i = slice_index_or classes i (record { first = 1; last = 0 })

-- a variable is in one of the classes
pub record IsInOne (classes : List Class) (v : ℕ) : Type 0 where
  pub place : ℕ
  pub within : place < length classes
  pub is_in : IsIn (class_at classes place) v

-- ---- a table with one line for each class
-- the nonbasic variable of a column
abbrev pub column_at : Table → ℕ → ℕ
column_at table j = slice_index_or table.nonbasic j 0

-- each line and each column has the class of its variable, and each variable of the rows is in one
pub record Fit (rows : RowList) (table : Table) (classes : Classes) : Type 0 where
  pub lines : length classes.lines ≡ length table.lines
  pub columns : length classes.columns ≡ length table.nonbasic
  pub of_lines : All (IsClass rows) classes.lines
  pub of_columns : All (IsClass rows) classes.columns
  pub basic : (i : ℕ) → i < length table.lines → IsIn (class_at classes.lines i) (line_at table.lines i).basic
  pub nonbasic : (j : ℕ) → j < length table.nonbasic → IsIn (class_at classes.columns j) (column_at table j)
  pub cover : (v : ℕ) → IsVariable rows v → IsInOne classes.lines v ⊎ IsInOne classes.columns v

-- lines that are equal but for their variables
pub record SameNumbers (a b : TableLine) : Type 0 where
  pub times : a.times ≡ b.times
  pub coefs : a.coefs ≡ b.coefs

-- The table stands for one with a line for each basic variable: in that, all variables of a class have the numbers of
-- the class's line, or those of its column.
pub record StandsFor (rows : RowList) (table : Table) (classes : Classes) (full : Table) : Type 0 where
  pub fit : Fit rows table classes
  pub nonbasic : table.nonbasic ≡ full.nonbasic
  pub lines : (i v : ℕ) → i < length table.lines → IsIn (class_at classes.lines i) v →
      SameNumbers (line_at table.lines i) (line_of full v)
  pub columns : (j v : ℕ) → j < length table.nonbasic → IsIn (class_at classes.columns j) v →
      SameNumbers (line_of full (column_at table j)) (line_of full v)

-- ---- the variable that stands for a class
-- the line with another basic variable
abbrev pub named : ℕ → TableLine → TableLine
named v line = record line { basic = v }

-- the lowest of a class below its bound, or where none is, the last
pub record IsLead (rows : RowList) (nonbasic : List ℕ) (class : Class) (line : TableLine) : Type 0 where
  pub before : (v : ℕ) → class.first ≤ v → v < line.basic → is_below rows nonbasic (named v line) ≡ false
  pub or_last : (is_below rows nonbasic line ≡ true) ⊎ (line.basic ≡ class.last)

abbrev pub AreLeads : RowList → List ℕ → List Class → List TableLine → Type 0
AreLeads rows nonbasic classes lines = (i : ℕ) → i < length lines →
    IsLead rows nonbasic (class_at classes i) (line_at lines i)

abbrev pub Lead : RowList → Table → Classes → Type 0
Lead rows table classes = AreLeads rows table.nonbasic classes.lines table.lines

-- ---- which variables are below their bounds
-- no line's variable, and no variable that follows a nonbasic one in its class
pub record NoneIsBelow (rows : RowList) (table : Table) (classes : Classes) : Type 0 where
  pub lines : (i : ℕ) → i < length table.lines → is_below rows table.nonbasic (line_at table.lines i) ≡ false
  pub columns : (j : ℕ) → j < length table.nonbasic → (class_at classes.columns j).last ≤ column_at table j

-- a variable is at most each of these that is
pub record IsAtMostBelow (rows : RowList) (table : Table) (classes : Classes) (v : ℕ) : Type 0 where
  pub lines : (i : ℕ) → i < length table.lines → is_below rows table.nonbasic (line_at table.lines i) ≡ true →
      v ≤ (line_at table.lines i).basic
  pub columns : (j : ℕ) → j < length table.nonbasic → column_at table j < (class_at classes.columns j).last →
      v ≤ column_at table j + 1

-- ---- what is kept
-- what is kept shows a table with a line for each basic variable
pub record ShowsFull (rows : RowList) (classed : Classed) (full : Table) : Type 0 where
  pub stands : StandsFor rows classed.kept.table classed.classes full
  pub lead : Lead rows classed.kept.table classed.classes
  pub shows : Shows rows classed.kept

-- it shows a table without too large a number, or that has one
abbrev pub IsClassedOrLarge : RowList → Table → Option Classed → Type 0
IsClassedOrLarge rows full (Some classed) = ShowsFull rows classed full × (is_large_table full ≡ false)
IsClassedOrLarge rows full None = is_large_table full ≡ true

-- the classes after the line i and the column j have exchanged theirs
abbrev pub classes_exchanged : ℕ → ℕ → Classes → Classes
classes_exchanged i j classes = record {
  lines = remove classes.lines i ++ class_at classes.columns j ∷ [];
  columns = slice_set classes.columns j (class_at classes.lines i);
}

-- lines have the same numbers as before, and variables of their classes
pub record AreRenamed (classes : List Class) (before after : List TableLine) : Type 0 where
  pub long : length after ≡ length before
  pub same : (i : ℕ) → i < length before → SameNumbers (line_at after i) (line_at before i)
  pub is_in : (i : ℕ) → i < length before → IsIn (class_at classes i) (line_at after i).basic

-- ---- the choice of what leaves
-- of the first n columns the one with the lowest nonbasic variable that is not the last of its class
abbrev pub IsFollowed : Table → Classes → ℕ → Option ℕ → Type 0
IsFollowed table classes n None = (j : ℕ) → j < n → (class_at classes.columns j).last ≤ column_at table j
IsFollowed table classes n (Some j) = (j < n) × (column_at table j < (class_at classes.columns j).last) ×
    ((k : ℕ) → k < n → column_at table k < (class_at classes.columns k).last → column_at table j ≤ column_at table k)

-- the variable of a line leaves, or that which follows the one of a column in its class
abbrev pub IsChosen : RowList → Table → Classes → Option Choice → Type 0
IsChosen rows table classes None = NoneIsBelow rows table classes
IsChosen rows table classes (Some (choice.Line i)) =
    (i < length table.lines) × (is_below rows table.nonbasic (line_at table.lines i) ≡ true) ×
    IsAtMostBelow rows table classes (line_at table.lines i).basic
IsChosen rows table classes (Some (choice.Column j)) =
    (j < length table.nonbasic) × (column_at table j < (class_at classes.columns j).last) ×
    IsAtMostBelow rows table classes (column_at table j + 1)

-- ---- tables by classes
-- at first the line of a class is that of its first row
abbrev pub line_of_class : RowList → Class → TableLine
line_of_class rows class = record { times = pos 1; basic = class.first; coefs = coefs_of rows class.first }

abbrev pub table_of_classes : RowList → List Class → Table
table_of_classes rows classes = record {
  nonbasic = range_with_len 1 rows.stars;
  lines = map (line_of_class rows) classes;
}

-- the variable that follows the nonbasic one of column j in its class takes its place, and nothing else changes
abbrev pub stepped : ℕ → Table → Table
stepped j table = record table { nonbasic = slice_set table.nonbasic j (column_at table j + 1) }

-- ---- tables of the runs
-- a table that one of the runs comes to
pub data IsReached (rows : RowList) (full : Table) : Type 0 where
  by_pivots : (pivots : ℕ) → PivotsTo rows pivots full → IsReached rows full
  by_lowering : (goal : Form) (pivots : ℕ) (line : TableLine) → IsForm rows.stars goal
      → Lowers rows goal pivots full line →
      IsReached rows full

-- what is kept of one
pub record IsKept (rows : RowList) (classed : Classed) : Type 0 where
  pub full : Table
  pub reached : IsReached rows full
  pub shows : ShowsFull rows classed full

-- what is kept of the table at which the run goes on, or its end
abbrev pub IsNextOf : RowList → PivotTurn → Next → Type 0
IsNextOf rows turn (next.Ends answer) = Ends answer ≡ turn
IsNextOf rows turn (next.Goes classed) = (full : Table) × (Goes full ≡ turn) × ShowsFull rows classed full
