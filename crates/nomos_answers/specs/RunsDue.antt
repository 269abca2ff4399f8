-- What is due where a script is to be run.
use Rattle.std.specs.Prelude.{◌≡◌, ℕ, List, take, Option, None, false}
use Rattle.nomos_types.specs.Acceptance.{Acceptance}
use Rattle.nomos_script.specs.ScriptReading.{ReadsAs}
use Rattle.nomos_script.specs.declared.item.ScriptItem.{ScriptItem}
use Rattle.nomos_legal.specs.Ledger.{LedgerState, empty_ledger}
use Rattle.nomos_legal.specs.Legal.{TellsFrom}
use Rattle.nomos_legal.specs.Passage.{Passage}
use Rattle.nomos_legal.specs.StandsFor.{StandsFor}
use Rattle.nomos_legal.specs.declared.journal.Journal.{Journal}
use Rattle.nomos_machine.specs.declared.policy.Policy.TheVariants.{First}
use Rattle.nomos_report.specs.Reported.{report_of, run_status}
use Rattle.nomos_walk.specs.Wanted.{journal_text_of, where_wanted}
use Rattle.nomos_run.specs.Carried.{FollowsCrew}
use Rattle.nomos_run.specs.declared.orders.Orders.{Orders}
use Rattle.nomos_words.specs.Options.{usual_limit}
use Rattle.nomos_workers.specs.declared.batch.Crew.TheVariants as crew
use Rattle.nomos_answers.specs.DueLines.{IsNoScript, no_entries}
use Rattle.nomos_answers.specs.Outside.{Input}

-- A run of items from a ledger: a legal journal of them, within the limit, whose firings are those of the crew. These
-- passages are what became of the items, and lead to the last ledger.
pub record HasRunFrom (a : Acceptance) (first : LedgerState) (items : List ScriptItem) (orders : Orders)
    (journal : Journal) (ps : List Passage) (last : LedgerState) : Type 0 where
  pub limit : journal.limit ≡ orders.limit
  pub tells : TellsFrom a first items journal ps last
  pub follows : FollowsCrew orders.crew a ps

-- the same from the empty ledger
abbrev pub HasRun : Acceptance → List ScriptItem → Orders → Journal → List Passage → LedgerState → Type 0
HasRun a items orders journal ps last = HasRunFrom a empty_ledger items orders journal ps last

-- How a script is run where the words say nothing of that: by one worker, the lowest ready process first, a batch for
-- as many firings as is usual. Neither the text of the journal nor the last result is wanted.
abbrev pub usual_orders : Orders
usual_orders = record { crew = crew.One First; limit = usual_limit; text = false; result = false }

-- What is due where a script is run: a status, what is to be written to the output, what to the journal's sink if
-- anything is, and the journal.
pub data IsRunDue (a : Acceptance) (orders : Orders) (script : Input)
    : ℕ → List ℕ → Option (List ℕ) → Journal → Type 0 where
  no_script : (status : ℕ) (out : List ℕ) → IsNoScript script status out
      → IsRunDue a orders script status out None (no_entries orders.limit)
  -- status 0 where each entry was carried out, 3 where one was not
  ran : (items : List ScriptItem) (journal : Journal) (ps : List Passage) (last : LedgerState)
      → ReadsAs script.text items → HasRun a items orders journal ps last → StandsFor a last
      → IsRunDue a orders script (run_status journal.entries) (report_of a ps)
      (where_wanted orders.text (journal_text_of a orders.limit ps)) journal

-- The journal that is known where memory was wanting: no item has passed, or some first ones have.
pub data IsRunPart (a : Acceptance) (orders : Orders) (script : Input) : Journal → Type 0 where
  not_run : IsRunPart a orders script (no_entries orders.limit)
  ran_part : (items : List ScriptItem) (count : ℕ) (journal : Journal) (ps : List Passage) (last : LedgerState)
      → ReadsAs script.text items → HasRun a (take count items) orders journal ps last
      → IsRunPart a orders script journal
