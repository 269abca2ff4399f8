-- How much a script may hold.
use Rattle.std.specs.Prelude.{ℕ, ◌+◌, ◌^◌, ◌<◌, ◌≤◌, List, [], ◌∷◌, length}
use Rattle.nomos_script.specs.declared.item.ScriptItem.{ScriptItem}
use Rattle.nomos_script.specs.declared.item.ScriptItem.TheVariants as item

-- how many deposits and batches there are
abbrev pub entry_count : List ScriptItem → ℕ
entry_count [] = 0
entry_count (item.Deposit line name units ∷ items) = 1 + entry_count items
entry_count (item.Batch batch ∷ items) = 1 + entry_count items
entry_count (item.Show line ∷ items) = entry_count items

-- how many starts there are in all batches
abbrev pub start_count : List ScriptItem → ℕ
start_count [] = 0
start_count (item.Deposit line name units ∷ items) = start_count items
start_count (item.Batch batch ∷ items) = length batch.starts + start_count items
start_count (item.Show line ∷ items) = start_count items

-- what each script keeps
pub record IsScriptSize (items : List ScriptItem) : Type 0 where
  pub entries : entry_count items < 105000
  pub starts : start_count items ≤ 2 ^ 20
