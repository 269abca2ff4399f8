-- A mirror: what the code has left of a process's variables, and what it wrote of lines.
use Rattle.std.specs.Prelude.{◌≡◌, ◌≢◌, ◌<◌, ℕ, List, [], ◌∷◌, ◌++◌, map, All}
use Rattle.nomos_ir.specs.Bindings.{IsAscending, bindings_of}
use Rattle.nomos_ir.specs.Value.{Value}
use Rattle.nomos_ir.specs.declared.ids.VarId.{VarId}
use Rattle.nomos_ir.specs.declared.lists.ProgramLists.{ProgramLists}
use Rattle.nomos_ir.specs.declared.mode.Mode.TheVariants as mode
use Rattle.nomos_machine.specs.declared.object.Object.{Object}
use Rattle.nomos_machine.specs.declared.object.Object.TheVariants as object
use Rattle.nomos_machine.specs.declared.object.PotentialList.{PotentialList}
use Rattle.nomos_snapshot.specs.Line.{IsLine, lines_text}
use Rattle.nomos_snapshot.specs.declared.line.SnapshotLine.{SnapshotLine}
use Rattle.nomos_snapshot.specs.declared.line.SnapshotLine.TheVariants as line
use Rattle.nomos_snapshot.specs.declared.remaining.Remaining.{Remaining}
use Rattle.nomos_snapshot.specs.declared.remaining.LowestVariable.{LowestVariable}
use Rattle.nomos_snapshot.specs.declared.remaining.LowestVariable.TheVariants as lowest

-- ---- variables

-- the variable is below the first of these
abbrev pub IsBelowFirst : {X : Type 0} → VarId → List (VarId × X) → Type 0
IsBelowFirst v [] = Unit {0}
IsBelowFirst v (e ∷ others) = v.0 < e.0.0

-- no list's variable is below all channels; and no value's is below all lists and channels
abbrev pub NoListFirst : {X Y : Type 0} → List (VarId × X) → List (VarId × Y) → Type 0
NoListFirst [] channels = Unit {0}
NoListFirst (e ∷ lists) channels = ¬ (IsBelowFirst e.0 channels)

abbrev pub NoValueFirst : {X Y Z : Type 0} → List (VarId × X) → List (VarId × Y) → List (VarId × Z) → Type 0
NoValueFirst [] lists channels = Unit {0}
NoValueFirst (e ∷ values) lists channels = ¬ (IsBelowFirst e.0 lists × IsBelowFirst e.0 channels)

-- no variable stands in both
abbrev pub AreApart : {X Y : Type 0} → List (VarId × X) → List (VarId × Y) → Type 0
AreApart xs ys = All (λ e. All (λ f. e.0.0 ≢ f.0.0) ys) xs

-- values, lists and channels that are left: each in order, and no variable in two of them
pub record AreLeft (values : List (VarId × Value)) (lists : List (VarId × PotentialList)) (channels : List (VarId × ℕ))
    : Type 0 where
  pub values_ascend : IsAscending values
  pub lists_ascend : IsAscending lists
  pub channels_ascend : IsAscending channels
  pub lists_apart : AreApart values lists
  pub channels_apart : AreApart values channels
  pub both_apart : AreApart lists channels

-- their lines in order of the variables
abbrev pub lines_of_left : List (VarId × Value) → List (VarId × PotentialList) → List (VarId × ℕ) → List SnapshotLine
lines_of_left values lists channels = map (λ e. e.1) (bindings_of (
    map (λ e. (e.0, line.Value e.0 e.1)) values
    ++ (map (λ e. (e.0, line.List e.0 e.1.amount e.1.items)) lists
    ++ map (λ e. (e.0, line.Channel e.0 e.1)) channels)
    ))

abbrev pub remaining_lines : Remaining → List SnapshotLine
remaining_lines r = lines_of_left r.values.now r.lists.now r.channels.now

abbrev pub IsRemaining : Remaining → Type 0
IsRemaining r = AreLeft r.values.now r.lists.now r.channels.now

abbrev pub lowest_line : LowestVariable → SnapshotLine
lowest_line (lowest.Value v x) = line.Value v x.now
lowest_line (lowest.List v l) = line.List v l.now.amount l.now.items
lowest_line (lowest.Channel v name) = line.Channel v name

-- The line of this variable stands first, and the others are left behind it.
pub record GoesFirst (v : LowestVariable) (before after : Remaining) : Type 0 where
  pub lines : remaining_lines before ≡ lowest_line v ∷ remaining_lines after
  pub left : IsRemaining after

-- ---- objects

-- a transaction
abbrev pub IsTransactionObject : Object → Type 0
IsTransactionObject (object.Process p) = p.mode ≡ mode.T
IsTransactionObject (object.Message m) = ⊥

-- ---- lines

-- These lines, each of which has the form, were appended.
pub record WritesLines (lists : ProgramLists) (before after : List ℕ) (lines : List SnapshotLine) : Type 0 where
  pub written : after ≡ before ++ lines_text lists lines
  pub form : All (IsLine lists) lines
