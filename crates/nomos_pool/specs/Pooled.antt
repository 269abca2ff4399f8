-- What the items of a script come to where threads submit its single lines, or which line is refused.
use Rattle.std.specs.Prelude.{◌≡◌, ℕ, List, [], ◌∷◌, ◌++◌, All, map, None, Result, Ok, Err}
use Rattle.nomos_script.specs.declared.item.Start.{Start}
use Rattle.nomos_script.specs.declared.item.Batch.{Batch}
use Rattle.nomos_script.specs.declared.item.ScriptItem.{ScriptItem}
use Rattle.nomos_script.specs.declared.item.ScriptItem.TheVariants as item
use Rattle.nomos_pool.specs.Dealing.{IsFairGathering}
use Rattle.nomos_pool.specs.declared.pool.Submission.{Submission}

-- the line of the text at which an item begins
abbrev pub first_line : ScriptItem → ℕ
first_line (item.Deposit line name units) = line
first_line (item.Batch batch) = batch.line
first_line (item.Show line) = line

-- one start, of no contract, on the line of the batch itself: a start between `begin` and `end` has a line of its own
abbrev pub IsSingleBatch : Batch → Type 0
IsSingleBatch batch =
    (start : Start) × (batch.starts ≡ start ∷ []) × (start.contract ≡ None) × (start.line ≡ batch.line)

-- a single line `exec`
abbrev pub IsSingle : ScriptItem → Type 0
IsSingle (item.Batch batch) = IsSingleBatch batch
IsSingle (item.Deposit line name units) = ⊥
IsSingle (item.Show line) = ⊥

abbrev pub NotSingle : ScriptItem → Type 0
NotSingle one = ¬ IsSingle one

-- the items that stand before the first single line stay, and the single lines are gathered fairly from n threads
pub record IsPooled (n : ℕ) (items pooled : List ScriptItem) : Type 0 where
  pub first : List ScriptItem
  pub batches : List Batch
  pub gathered : List (Submission Batch)
  pub read : items ≡ first ++ map item.Batch batches
  pub others : All NotSingle first
  pub single : All IsSingleBatch batches
  pub fair : IsFairGathering n batches gathered
  pub taken : pooled ≡ first ++ map (λ s. item.Batch s.item) gathered

-- the first item that is no single line begins on this line
pub record FirstOther (items : List ScriptItem) (line : ℕ) : Type 0 where
  pub single : List ScriptItem
  pub bad : ScriptItem
  pub rest : List ScriptItem
  pub read : items ≡ single ++ bad ∷ rest
  pub all : All IsSingle single
  pub other : NotSingle bad
  pub at : line ≡ first_line bad

-- the first item behind a single line that is none itself begins on this line
pub record IsRefused (items : List ScriptItem) (line : ℕ) : Type 0 where
  pub first : List ScriptItem
  pub one : ScriptItem
  pub behind : List ScriptItem
  pub read : items ≡ first ++ one ∷ behind
  pub others : All NotSingle first
  pub starts : IsSingle one
  pub refused : FirstOther behind line

-- what items come to with n threads: the items that are pooled, or the line that is refused
abbrev pub PoolsTo : ℕ → List ScriptItem → Result (List ScriptItem) ℕ → Type 0
PoolsTo n items (Ok pooled) = IsPooled n items pooled
PoolsTo n items (Err line) = IsRefused items line
