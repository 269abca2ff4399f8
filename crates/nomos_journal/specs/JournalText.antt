-- The text of a journal, along what became of the script.
use Rattle.std.specs.Prelude.{◌≡◌, ℕ, List, [], ◌∷◌, ◌++◌, Option, Some, slice_get}
use Rattle.std.specs.List.{flat_map}
use Rattle.std.specs.Option.{option_map, option_to_list}
use Rattle.nomos_ir.specs.Instruction.{code_form}
use Rattle.nomos_ir.specs.declared.code_node.CodeNode.{CodeNode}
use Rattle.nomos_ir.specs.declared.code_node.CodeNode.TheVariants as code
use Rattle.nomos_ir.specs.declared.ids.CodeId.{CodeId}
use Rattle.nomos_types.specs.Acceptance.{Acceptance}
use Rattle.nomos_types.specs.Amount.{Annotations, dths}
use Rattle.nomos_machine.specs.Optional.{◌>>=◌}
use Rattle.nomos_machine.specs.State.{State, process_at}
use Rattle.nomos_machine.specs.Step.{step}
use Rattle.nomos_script.specs.declared.item.ScriptItem.{ScriptItem}
use Rattle.nomos_legal.specs.Batch.{state_or}
use Rattle.nomos_legal.specs.Ledger.{LedgerState}
use Rattle.nomos_legal.specs.Legal.{Tells}
use Rattle.nomos_legal.specs.Passage.{Passage}
use Rattle.nomos_legal.specs.declared.journal.Entry.{Entry}
use Rattle.nomos_legal.specs.declared.journal.Journal.{Journal}
use Rattle.nomos_journal.specs.Text.{lines_text}
use Rattle.nomos_journal.specs.declared.line.JournalLine.{JournalLine}
use Rattle.nomos_journal.specs.declared.line.JournalLine.TheVariants as line
use Rattle.nomos_journal.specs.declared.line.Version.{Version}
use Rattle.nomos_journal.specs.declared.line.Version.TheVariants as version

-- ---- firings

-- the line of version 2 of a firing at an instruction
abbrev pub fired_line : Annotations → ℕ → CodeNode → JournalLine
fired_line x pid (code.Work at r next) = line.Worked pid (dths x r)
fired_line x pid n = line.Fired pid (code_form n)

-- the line of version 2 of a firing at the instruction of this number
abbrev pub placed_line : Acceptance → ℕ → CodeId → Option JournalLine
placed_line a pid place = option_map (fired_line a.annotations pid) (slice_get a.program.code place.0)

-- the line of a firing from a state: the process fires where it stands
abbrev pub firing_line : Version → Acceptance → State → ℕ → Option JournalLine
firing_line version.One a s pid = Some (line.Pid pid)
firing_line version.Two a s pid = process_at s pid >>= λ p. placed_line a pid p.code

-- The lines of a run from a state: each firing's line says where the process stands when it fires.
abbrev pub firing_lines : Version → Acceptance → State → List ℕ → List JournalLine
firing_lines v a s [] = []
firing_lines v a s (pid ∷ pids) =
    option_to_list (firing_line v a s pid) ++ firing_lines v a (state_or s (step a s pid)) pids

-- the lines of version 2 of firings at these instructions
abbrev pub placed_lines : Acceptance → List ℕ → List CodeId → List JournalLine
placed_lines a [] places = []
placed_lines a (pid ∷ pids) [] = []
placed_lines a (pid ∷ pids) (place ∷ places) =
    option_to_list (placed_line a pid place) ++ placed_lines a pids places

-- ---- the text

-- the lines of an entry whose firings begin from a state
abbrev pub entry_lines : Version → Acceptance → State → Entry → List JournalLine
entry_lines v a start entry =
    line.Line entry.line ∷ (firing_lines v a start entry.firings ++ line.End entry.end ∷ [])

-- the lines of a passage; a `show` has none
abbrev pub passage_lines : Version → Acceptance → Passage → List JournalLine
passage_lines v a p = flat_map (entry_lines v a p.start.state) (option_to_list p.entry)

-- the lines of a journal with this limit, of which these passages tell
abbrev pub journal_lines : Version → Acceptance → ℕ → List Passage → List JournalLine
journal_lines v a limit ps = line.Head v ∷ line.Steps limit ∷ flat_map (passage_lines v a) ps

-- The bytes are the text in this version of the journal of these items, which is legal.
pub record IsTextOf (v : Version) (a : Acceptance) (items : List ScriptItem) (journal : Journal) (text : List ℕ) : Type
    0
  where
    pub passages : List Passage
    pub last : LedgerState
    pub tells : Tells a items journal passages last
    pub lines : text ≡ lines_text a.annotations.unit (journal_lines v a journal.limit passages)
