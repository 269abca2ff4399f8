-- Items as scripts write them: their lines are below ten million, and their names are names.
use Rattle.std.specs.Prelude.{ℕ, ◌<◌, List, All, IfSome}
use Rattle.nomos_script.specs.ScriptNames.{IsScriptName}
use Rattle.nomos_script.specs.Size.{IsScriptSize}
use Rattle.nomos_script.specs.declared.item.ScriptItem.{ScriptItem}
use Rattle.nomos_script.specs.declared.item.ScriptItem.TheVariants as item
use Rattle.nomos_script.specs.declared.item.Start.{Start}

-- more lines than any text within the limit has
abbrev pub line_bound : ℕ
line_bound = 10000000

-- a start whose line is below the bound, and of which each name is a name
pub record IsWrittenStart (start : Start) : Type 0 where
  pub line : start.line < line_bound
  pub sender : IsScriptName start.sender
  pub proc : IsScriptName start.proc
  pub names : All IsScriptName start.names
  pub contract : IfSome start.contract IsScriptName

-- an item whose lines are below the bound, and of which each name is a name
abbrev pub IsWrittenItem : ScriptItem → Type 0
IsWrittenItem (item.Deposit line name units) = (line < line_bound) × IsScriptName name
IsWrittenItem (item.Batch batch) = (batch.line < line_bound) × All IsWrittenStart batch.starts
IsWrittenItem (item.Show line) = line < line_bound

-- each item is as scripts write them
abbrev pub AreWritten : List ScriptItem → Type 0
AreWritten items = All IsWrittenItem items

-- what each script keeps: its size is that of a text within the limit, and its items are as scripts write them
pub record IsScript (items : List ScriptItem) : Type 0 where
  pub size : IsScriptSize items
  pub written : AreWritten items
