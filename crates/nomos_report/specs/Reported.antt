-- The report of a journal: the lines of each passage.
use Rattle.std.specs.Prelude.{◌≡◌, ℕ, ◌-◌, Bool, true, false, List, [], ◌++◌, codes, decimal, length, Option, Some, if◌then◌else◌}
use Rattle.std.specs.List.{flat_map, list_all}
use Rattle.std.specs.Option.{option_to_list}
use Rattle.nomos_base.specs.Gas.{gas_text}
use Rattle.nomos_ir.specs.Value.{Value}
use Rattle.nomos_ir.specs.declared.mode.Mode.{Mode}
use Rattle.nomos_ir.specs.declared.mode.Mode.TheVariants as mode
use Rattle.nomos_types.specs.Acceptance.{Acceptance}
use Rattle.nomos_machine.specs.Optional.{◌>>=◌}
use Rattle.nomos_machine.specs.State.{State}
use Rattle.nomos_machine.specs.declared.object.Object.{Object}
use Rattle.nomos_machine.specs.declared.object.Object.TheVariants as object
use Rattle.nomos_deeds.specs.Readers.{acquires, keeper}
use Rattle.nomos_script.specs.declared.item.ScriptItem.{ScriptItem}
use Rattle.nomos_script.specs.declared.item.ScriptItem.TheVariants as item
use Rattle.nomos_legal.specs.Legal.{TellsFrom}
use Rattle.nomos_legal.specs.Ledger.{LedgerState, empty_ledger}
use Rattle.nomos_legal.specs.Passage.{Passage}
use Rattle.nomos_legal.specs.declared.journal.End.{End}
use Rattle.nomos_legal.specs.declared.journal.End.TheVariants as end
use Rattle.nomos_legal.specs.declared.journal.Entry.{Entry}
use Rattle.nomos_legal.specs.declared.journal.Journal.{Journal}
use Rattle.nomos_printing.specs.End.{end_text}
use Rattle.nomos_printing.specs.ValueTexts.{value_text}
use Rattle.nomos_report.specs.Block.{accepted_block}
use Rattle.nomos_report.specs.ReportLines.{line, line_of}
use Rattle.nomos_report.specs.ShownState.{show_lines}

-- `result PID VALUE`
abbrev pub result_line : ℕ × Value → List ℕ
result_line result = line (codes "result " ++ decimal result.0 ++ codes " " ++ value_text result.1)

-- `left PID`, of a transaction
abbrev pub left_line : Mode → ℕ → List ℕ
left_line mode.T pid = line (codes "left " ++ decimal pid)
left_line _ pid = []

abbrev pub left_lines : Object → List ℕ
left_lines (object.Process p) = left_line p.mode p.pid
left_lines (object.Message m) = []

-- `waits PID for S of Q`, where the process of number Q stands for the shared name S
abbrev pub waits_line : ℕ → Option ℕ → Option ℕ → List ℕ
waits_line pid (Some shared) (Some other) =
    line (codes "waits " ++ decimal pid ++ codes " for " ++ decimal shared ++ codes " of " ++ decimal other)
waits_line pid _ _ = []

-- the line of a process that stands at `acquire`
abbrev pub waits_lines : Acceptance → List Object → Object → List ℕ
waits_lines a objects (object.Process p) = waits_line p.pid (acquires a p) (acquires a p >>= keeper objects)
waits_lines a objects (object.Message m) = []

-- how many firings were made
abbrev pub firings_text : ℕ → List ℕ
firings_text count = codes " firings " ++ decimal count

-- The lines of an end, at a line of the script, after so many firings, which led from a state where so much gas was
-- spent to this one. Amounts have so many Dths to the unit.
abbrev pub end_lines : Acceptance → ℕ → ℕ → ℕ → State → End → List ℕ
end_lines a n count spent last end.Committed =
    line_of n
    (end_text a.annotations.unit end.Committed ++ firings_text count ++ codes " spent "
    ++ gas_text (last.spent - spent) a.annotations.unit)
    ++ flat_map result_line last.results
end_lines a n count spent last end.Blocked =
    line_of n (end_text a.annotations.unit end.Blocked ++ firings_text count)
    ++ flat_map left_lines last.objects
    ++ flat_map (waits_lines a last.objects) last.objects
end_lines a n count spent last (end.Aborted pid f) =
    line_of n (end_text a.annotations.unit (end.Aborted pid f) ++ firings_text count)
end_lines a n count spent last e = line_of n (end_text a.annotations.unit e)

-- an end without firings: of a deposit, and of a batch of which a line is refused
abbrev pub HasNoFirings : End → Type 0
HasNoFirings end.Deposited = Unit {0}
HasNoFirings (end.Refused m cause) = Unit {0}
HasNoFirings _ = ⊥

-- the lines of an entry
abbrev pub entry_lines : Acceptance → Passage → Entry → List ℕ
entry_lines a p e = end_lines a e.line (length e.firings) p.start.state.spent p.last e.end

-- the lines of a passage: of a `show` those of the ledger, of all else those of the entry
abbrev pub shown_lines : Acceptance → LedgerState → ScriptItem → List ℕ
shown_lines a l (item.Show n) = show_lines a n l
shown_lines a l _ = []

abbrev pub passage_lines : Acceptance → Passage → List ℕ
passage_lines a p = shown_lines a p.before p.item ++ flat_map (entry_lines a p) (option_to_list p.entry)

-- what is printed of passages
abbrev pub report_of : Acceptance → List Passage → List ℕ
report_of a ps = accepted_block a ++ flat_map (passage_lines a) ps

-- The text is the report of this journal of these items, from the first ledger.
pub record IsReportFrom (a : Acceptance) (first : LedgerState) (items : List ScriptItem) (journal : Journal)
    (text : List ℕ) : Type 0 where
  pub passages : List Passage
  pub last : LedgerState
  pub tells : TellsFrom a first items journal passages last
  pub is : text ≡ report_of a passages

-- from the empty ledger
abbrev pub IsReport : Acceptance → List ScriptItem → Journal → List ℕ → Type 0
IsReport a items journal text = IsReportFrom a empty_ledger items journal text

-- the ends of what was carried out: a deposit, and a batch that stays
abbrev pub is_well : End → Bool
is_well end.Deposited = true
is_well end.Committed = true
is_well _ = false

-- the status of a run: 0 where each entry was carried out, 3 where one was not
abbrev pub run_status : List Entry → ℕ
run_status entries = if list_all (λ e. is_well e.end) entries then 0 else 3
