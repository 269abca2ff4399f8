-- What is due where threads submit the single lines of a script.
use Rattle.std.specs.Prelude.{ℕ, List, ◌++◌, take, Option, Some, None, Ok, Err, codes, decimal}
use Rattle.nomos_types.specs.Acceptance.{Acceptance}
use Rattle.nomos_script.specs.ScriptReading.{ReadsAs}
use Rattle.nomos_script.specs.declared.item.ScriptItem.{ScriptItem}
use Rattle.nomos_legal.specs.Ledger.{LedgerState}
use Rattle.nomos_legal.specs.Passage.{Passage}
use Rattle.nomos_legal.specs.StandsFor.{StandsFor}
use Rattle.nomos_legal.specs.declared.journal.Journal.{Journal}
use Rattle.nomos_pool.specs.Pooled.{PoolsTo}
use Rattle.nomos_report.specs.Reported.{report_of, run_status}
use Rattle.nomos_words.specs.Options.{usual_limit}
use Rattle.nomos_answers.specs.DueLines.{IsNoScript, no_entries, script_refusal}
use Rattle.nomos_answers.specs.Outside.{Input}
use Rattle.nomos_answers.specs.RunsDue.{HasRun, usual_orders}

-- the line of a script that is refused since this line, behind a single one, is none itself
abbrev pub pool_refusal : ℕ → List ℕ
pool_refusal k = script_refusal (codes "Pool " ++ decimal k)

-- What is due where so many threads submit the single lines of a script. It is a status, what is to be written to the
-- output, the journal, and the items that were taken, which stand in place of those that were read.
pub data IsPoolDue (a : Acceptance) (threads : ℕ) (script : Input)
    : ℕ → List ℕ → Journal → Option (List ScriptItem) → Type 0 where
  no_script : (status : ℕ) (out : List ℕ) → IsNoScript script status out
      → IsPoolDue a threads script status out (no_entries usual_limit) None
  no_pool : (items : List ScriptItem) (k : ℕ) → ReadsAs script.text items → PoolsTo threads items (Err k)
      → IsPoolDue a threads script 2 (pool_refusal k) (no_entries usual_limit) None
  -- status 0 where each entry was carried out, 3 where one was not
  ran : (items taken : List ScriptItem) (journal : Journal) (ps : List Passage) (last : LedgerState)
      → ReadsAs script.text items → PoolsTo threads items (Ok taken) → HasRun a taken usual_orders journal ps last
      → StandsFor a last
      → IsPoolDue a threads script (run_status journal.entries) (report_of a ps) journal (Some taken)

-- The journal that is known where memory was wanting, and the items that were taken: before they were gathered nothing
-- is known, and then the journal of some first ones of them.
pub data IsPoolPart (a : Acceptance) (threads : ℕ) (script : Input) : Journal → Option (List ScriptItem) → Type 0 where
  not_gathered : IsPoolPart a threads script (no_entries usual_limit) None
  ran_part : (items taken : List ScriptItem) (count : ℕ) (journal : Journal) (ps : List Passage) (last : LedgerState)
      → ReadsAs script.text items → PoolsTo threads items (Ok taken)
      → HasRun a (take count taken) usual_orders journal ps last → IsPoolPart a threads script journal (Some taken)
