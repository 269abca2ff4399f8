-- What is due where a party from outside talks behind a script.
use Rattle.std.specs.Prelude.{ℕ, ◌<◌, Bool, List, ◌++◌, length, codes, decimal, if◌then◌else◌}
use Rattle.nomos_ir.specs.Limits.{text_limit}
use Rattle.nomos_types.specs.Acceptance.{Acceptance}
use Rattle.nomos_script.specs.ScriptReading.{ReadsAs}
use Rattle.nomos_script.specs.TalkReading.{IsFormlessAt, ReadsAsTalk}
use Rattle.nomos_script.specs.declared.item.ScriptItem.{ScriptItem}
use Rattle.nomos_script.specs.declared.talk_line.TalkLine.{TalkLine}
use Rattle.nomos_legal.specs.Ledger.{LedgerState}
use Rattle.nomos_legal.specs.Passage.{Passage}
use Rattle.nomos_legal.specs.StandsFor.{StandsFor}
use Rattle.nomos_legal.specs.declared.journal.Entry.{Entry}
use Rattle.nomos_legal.specs.declared.journal.Journal.{Journal}
use Rattle.nomos_monitor.specs.TalkCourse.{TalkReply}
use Rattle.nomos_report.specs.Reported.{report_of, run_status}
use Rattle.nomos_words.specs.Options.{usual_limit}
use Rattle.nomos_answers.specs.DueLines.{IsNoScript, no_entries, read_fault_line}
use Rattle.nomos_answers.specs.Outside.{HaveRisen, Input}
use Rattle.nomos_answers.specs.RunsDue.{HasRun, usual_orders}
use Rattle.nomos_visit.specs.TalkText.{talk_line_text, turns_of}
use Rattle.nomos_visit.specs.Visits.{HoldsTalkIn, told_of_talk}

-- What is due where there is no text of a talk: a status and a line.
pub data IsNoTalk (text : Input) : ℕ → List ℕ → Type 0 where
  fault : HaveRisen text.counts → IsNoTalk text 5 (read_fault_line (codes "talk"))
  too_long : text_limit < length text.text → IsNoTalk text 10 (talk_line_text (codes "refused TooLong"))
  syntax : (k : ℕ) → IsFormlessAt text.text k
      → IsNoTalk text 10 (talk_line_text (codes "refused Syntax " ++ decimal k))

-- status 3 where not all is done that the party does, and otherwise that of the script
abbrev pub talk_status : Bool → List Entry → ℕ
talk_status fine entries = if fine then run_status entries else 3

-- What is due where a party talks behind a script, with as many firings in all as a batch has where nothing else is
-- said. It is a status, what is to be written to the output, and the journal. The text of the talk is read behind the
-- script, and before anything is run.
pub data IsTalkDue (a : Acceptance) (name proc : List ℕ) (script text : Input) : ℕ → List ℕ → Journal → Type 0 where
  no_script : (status : ℕ) (out : List ℕ) → IsNoScript script status out
      → IsTalkDue a name proc script text status out (no_entries usual_limit)
  no_talk : (items : List ScriptItem) (status : ℕ) (out : List ℕ) → ReadsAs script.text items
      → IsNoTalk text status out → IsTalkDue a name proc script text status out (no_entries usual_limit)
  talked : (items : List ScriptItem) (lines : List (ℕ × TalkLine)) (journal : Journal) (ps : List Passage)
      (last : LedgerState) (fine : Bool) (replies : List TalkReply) → ReadsAs script.text items
      → ReadsAsTalk text.text lines → HasRun a items usual_orders journal ps last → StandsFor a last
      → HoldsTalkIn a last name proc usual_limit (turns_of a.program lines) fine replies
      → IsTalkDue a name proc script text (talk_status fine journal.entries)
      (report_of a ps ++ told_of_talk a lines replies) journal
