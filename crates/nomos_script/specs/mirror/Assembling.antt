-- How items are made of lines: a mirror of the code, on which no promise stands.
use Rattle.std.specs.Prelude.{ℕ, List, [], ◌∷◌, ◌++◌, Option, Some, None}
use Rattle.nomos_script.specs.declared.item.Start.{Start}
use Rattle.nomos_script.specs.declared.item.ScriptItem.{ScriptItem}
use Rattle.nomos_script.specs.declared.item.ScriptItem.TheVariants as item
use Rattle.nomos_script.specs.declared.line.Line.{Line}
use Rattle.nomos_script.specs.declared.line.Line.TheVariants as line
use Rattle.nomos_script.specs.Form.{Form, blank, deposit, create, exec, begin, end, show, units_of}
use Rattle.nomos_script.specs.Item.{start_at, batch_of}

-- what a line of this number and form says
abbrev pub line_said : ℕ → Form → Line
line_said n blank = line.Blank
line_said n (deposit name digits) = line.Deposit name (units_of digits)
line_said n (create contract i) = line.Start (start_at n (Some contract) i)
line_said n (exec i) = line.Start (start_at n None i)
line_said n begin = line.Begin
line_said n end = line.End
line_said n show = line.Show

-- Items; and, where a batch is open, the line of its `begin`, and its starts.
pub record Assembled : Type 0 where
  pub items : List ScriptItem
  pub opened : Option ℕ
  pub starts : List Start

abbrev pub nothing_assembled : Assembled
nothing_assembled = record { items = []; opened = None; starts = [] }

abbrev pub with_item : Assembled → ScriptItem → Assembled
with_item a i = record a { items = a.items ++ i ∷ [] }

-- with one more line, of this number, where no batch is open
abbrev pub add_outside : ℕ → Line → Assembled → Option Assembled
add_outside n line.Blank a = Some a
add_outside n (line.Deposit name units) a = Some (with_item a (item.Deposit n name units))
add_outside n (line.Start start) a = Some (with_item a (batch_of start))
add_outside n line.Begin a = Some (record a { opened = Some n })
add_outside n line.End a = None
add_outside n line.Show a = Some (with_item a (item.Show n))

-- where one is open that began at this line
abbrev pub add_inside : ℕ → Line → Assembled → Option Assembled
add_inside first line.Blank a = Some a
add_inside first (line.Start start) a = Some (record a { starts = a.starts ++ start ∷ [] })
add_inside first line.End a = Some (record {
  items = a.items ++ item.Batch (record { line = first; starts = a.starts }) ∷ [];
  opened = None;
  starts = [];
})
add_inside first _ a = None

abbrev pub add_at : ℕ → Line → Option ℕ → Assembled → Option Assembled
add_at n l None a = add_outside n l a
add_at n l (Some first) a = add_inside first l a

abbrev pub add_line : ℕ → Line → Assembled → Option Assembled
add_line n l a = add_at n l a.opened a
