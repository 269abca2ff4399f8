-- What is due of a run from a ledger, as the code finds it. Private clauses alone cite it.
use Rattle.std.specs.Prelude.{ℕ, List}
use Rattle.nomos_answers.specs.Finding.{IsBareOf, SavesWhole}
use Rattle.nomos_answers.specs.Outside.{HasText, SourceState, input_of}
use Rattle.nomos_answers.specs.RunsDue.{HasRunFrom, usual_orders}
use Rattle.nomos_answers.specs.declared.due.Due.{Due}
use Rattle.nomos_legal.specs.Ledger.{LedgerState}
use Rattle.nomos_legal.specs.Passage.{Passage}
use Rattle.nomos_legal.specs.StandsFor.{StandsFor}
use Rattle.nomos_legal.specs.declared.journal.Journal.{Journal}
use Rattle.nomos_report.specs.Reported.{report_of}
use Rattle.nomos_script.specs.ScriptReading.{ReadsAs}
use Rattle.nomos_script.specs.declared.item.ScriptItem.{ScriptItem}
use Rattle.nomos_types.specs.Acceptance.{Acceptance}
use Rattle.nomos_words.specs.Options.{usual_limit}

-- what is due of a script with these items, run from a ledger, where the last ledger is to be saved
pub record RunsOn (a : Acceptance) (first : LedgerState) (items : List ScriptItem) (due : Due) : Type 0 where
  pub journal : Journal
  pub passages : List Passage
  pub last : LedgerState
  pub run : HasRunFrom a first items usual_orders journal passages last
  pub stands : StandsFor a last
  pub whole : SavesWhole a journal (report_of a passages) last due

-- what is due of the script that a source has, run from a ledger
pub data GoesOnBy (a : Acceptance) (first : LedgerState) (source : SourceState) (due : Due) : Type 0 where
  ran_on : (text : List ℕ) (items : List ScriptItem) → HasText source.left text → ReadsAs text items
      → RunsOn a first items due → GoesOnBy a first source due
  not_read : (text : List ℕ) → HasText source.left text → IsBareOf (input_of source text) usual_limit due
      → GoesOnBy a first source due
