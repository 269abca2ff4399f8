-- What is due where the load of `bench` is run: its script is made, and a summary stands in place of the report.
use Rattle.std.specs.Prelude.{ℕ, Bool, true, false, List, length, take, sum_by, None, if◌then◌else◌}
use Rattle.nomos_types.specs.Acceptance.{Acceptance}
use Rattle.nomos_script.specs.ScriptReading.{ReadsAs}
use Rattle.nomos_script.specs.declared.item.ScriptItem.{ScriptItem}
use Rattle.nomos_legal.specs.Ledger.{LedgerState}
use Rattle.nomos_legal.specs.Passage.{Passage}
use Rattle.nomos_legal.specs.StandsFor.{StandsFor}
use Rattle.nomos_legal.specs.declared.journal.End.{End}
use Rattle.nomos_legal.specs.declared.journal.End.TheVariants as end
use Rattle.nomos_legal.specs.declared.journal.Entry.{Entry}
use Rattle.nomos_legal.specs.declared.journal.Journal.{Journal}
use Rattle.nomos_report.specs.Reported.{run_status}
use Rattle.nomos_walk.specs.Wanted.{result_behind}
use Rattle.nomos_run.specs.declared.orders.Orders.{Orders}
use Rattle.nomos_words.specs.BenchLoad.{auction_text, load_script}
use Rattle.nomos_words.specs.Summary.{summary_text}
use Rattle.nomos_words.specs.declared.summary.Figures.{Figures}
use Rattle.nomos_answers.specs.DueLines.{no_entries}
use Rattle.nomos_answers.specs.RunsDue.{HasRun}
use Rattle.nomos_answers.specs.declared.benches.Load.{Load}

-- the text of the contract on which loads are run
abbrev pub load_contract : List ℕ
load_contract = auction_text

-- the text of the script of a load
abbrev pub load_text : Load → List ℕ
load_text load = load_script load.seed load.bidders

-- a batch that stays
abbrev pub stays : End → Bool
stays end.Committed = true
stays _ = false

-- the firings of an entry that stay: those of a batch that does
abbrev pub lasting_firings : Entry → ℕ
lasting_firings entry = if stays entry.end then length entry.firings else 0

abbrev pub all_lasting : List Entry → ℕ
all_lasting entries = sum_by lasting_firings entries

-- what is told of a load with this journal, which led to this ledger
abbrev pub figures_of : Load → Acceptance → Journal → LedgerState → Figures
figures_of load a journal last = record {
  seed = load.seed;
  bidders = load.bidders;
  entries = length journal.entries;
  firings = all_lasting journal.entries;
  spent = last.state.spent;
  unit = a.annotations.unit;
}

-- What is due where a load is run: a status, the summary with the last result of the last entry, and the journal.
pub data IsBenchDue (a : Acceptance) (orders : Orders) (load : Load) : ℕ → List ℕ → Journal → Type 0 where
  -- status 0 where each entry was carried out, 3 where one was not
  ran : (items : List ScriptItem) (journal : Journal) (ps : List Passage) (last : LedgerState)
      → ReadsAs (load_text load) items → HasRun a items orders journal ps last → StandsFor a last
      → IsBenchDue a orders load (run_status journal.entries)
      (summary_text (figures_of load a journal last) (result_behind None ps)) journal

-- The journal that is known where memory was wanting: no item has passed, or some first ones have.
pub data IsBenchPart (a : Acceptance) (orders : Orders) (load : Load) : Journal → Type 0 where
  not_run : IsBenchPart a orders load (no_entries orders.limit)
  ran_part : (items : List ScriptItem) (count : ℕ) (journal : Journal) (ps : List Passage) (last : LedgerState)
      → ReadsAs (load_text load) items → HasRun a (take count items) orders journal ps last
      → IsBenchPart a orders load journal
