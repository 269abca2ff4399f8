-- The items that paragraphs stand for.
use Rattle.std.specs.Prelude.{ℕ, ◌+◌, List, [], ◌∷◌, ◌++◌, length, Option, Some, None}
use Rattle.std.specs.Option.{option_to_list}
use Rattle.nomos_script.specs.declared.item.Start.{Start}
use Rattle.nomos_script.specs.declared.item.ScriptItem.{ScriptItem}
use Rattle.nomos_script.specs.declared.item.ScriptItem.TheVariants as item
use Rattle.nomos_script.specs.Form.{Invocation, Form, blank, deposit, create, exec, begin, end, show, units_of}
use Rattle.nomos_script.specs.Paragraph.{Paragraph, single, several}
use Rattle.nomos_script.specs.ValueTree.{values_at}

-- what a line of this number starts; a contract has a name
abbrev pub start_at : ℕ → Option (List ℕ) → Invocation → Start
start_at line contract i = record {
  line = line;
  sender = i.sender;
  proc = i.proc;
  values = values_at i.values;
  names = i.names;
  contract = contract;
}

-- what lines between `begin` and `end` start, the first of which has this number
abbrev pub start_of_line : ℕ → Form → Option Start
start_of_line line (create contract i) = Some (start_at line (Some contract) i)
start_of_line line (exec i) = Some (start_at line None i)
start_of_line line _ = None

-- what such lines start, one after the other
abbrev pub starts_of : ℕ → List Form → List Start
starts_of line [] = []
starts_of line (form ∷ forms) = option_to_list (start_of_line line form) ++ starts_of (line + 1) forms

-- a batch of one start
abbrev pub batch_of : Start → ScriptItem
batch_of start = item.Batch (record { line = start.line; starts = start ∷ [] })

-- what a single line of this number stands for
abbrev pub item_of : ℕ → Form → Option ScriptItem
item_of line blank = None
item_of line (deposit name digits) = Some (item.Deposit line name (units_of digits))
item_of line (create contract i) = Some (batch_of (start_at line (Some contract) i))
item_of line (exec i) = Some (batch_of (start_at line None i))
item_of line begin = None
item_of line end = None
item_of line show = Some (item.Show line)

-- what paragraphs stand for, the first line of which has this number
abbrev pub items_of : ℕ → List Paragraph → List ScriptItem
items_of line [] = []
items_of line (single form ∷ paragraphs) = option_to_list (item_of line form) ++ items_of (line + 1) paragraphs
items_of line (several forms ∷ paragraphs) =
    item.Batch (record { line = line; starts = starts_of (line + 1) forms })
    ∷ items_of (line + length forms + 2) paragraphs
