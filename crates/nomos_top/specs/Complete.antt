-- What is typed is accepted, and what behind it is as it should be is gone through to its end.
use Rattle.std.specs.Prelude.{◌≡◌, ◌≢◌, ◌⊎◌, ℕ, List, Ok, Err}
use Rattle.nomos_accept.specs.AcceptedText.{PivotRunEndsWith}
use Rattle.nomos_accept.specs.TypedText.{IsTypedAs}
use Rattle.nomos_answers.specs.RunsDue.{HasRun, usual_orders}
use Rattle.nomos_ir.specs.declared.lists.ProgramLists.{ProgramLists}
use Rattle.nomos_journal.specs.JournalText.{IsTextOf}
use Rattle.nomos_journal.specs.declared.line.Version.{Version}
use Rattle.nomos_least.specs.LeastBounds.{LeastRunEndsWith}
use Rattle.nomos_legal.specs.Ledger.{LedgerState}
use Rattle.nomos_legal.specs.Passage.{Passage}
use Rattle.nomos_legal.specs.declared.journal.Journal.{Journal}
use Rattle.nomos_pool.specs.Pooled.{PoolsTo}
use Rattle.nomos_report.specs.Reported.{run_status}
use Rattle.nomos_script.specs.ScriptReading.{ReadsAs}
use Rattle.nomos_script.specs.TalkReading.{ReadsAsTalk}
use Rattle.nomos_script.specs.declared.item.ScriptItem.{ScriptItem}
use Rattle.nomos_script.specs.declared.talk_line.TalkLine.{TalkLine}
use Rattle.nomos_simplex.specs.declared.solved.Solved.TheVariants as solved
use Rattle.nomos_simplex.specs.declared.solved.SolvedLeast.TheVariants as least_solved
use Rattle.nomos_simplex.specs.declared.solved.Stop.{Stop}
use Rattle.nomos_snapshot.specs.Loading.{Loads}
use Rattle.nomos_snapshot.specs.Saving.{Saves}
use Rattle.nomos_top.specs.Seen.{Call, Texts, Fails, IsDone, IsOrFails}
use Rattle.nomos_top.specs.TaskRuns.{IsGivenFor}
use Rattle.nomos_top.specs.Tasks.{IsAlone, IsLeast, ReadsTalk, contract_of}
use Rattle.nomos_types.specs.Acceptance.{Acceptance}
use Rattle.nomos_types.specs.Amount.{Annotations}
use Rattle.nomos_words.specs.Words.{Task, run, replay, bench, pool, talk, save, resume, Asks}

-- the text of the journal is that of a legal one of these items
abbrev pub IsLegalText : Acceptance → List ScriptItem → Texts → Type 0
IsLegalText a items t = (v : Version) × (kept : Journal) × IsTextOf v a items kept t.third

-- the script reads
abbrev pub HasScript : Texts → Type 0
HasScript t = (items : List ScriptItem) × ReadsAs t.script items

-- The script reads, and behind its first single line no other item stands.
pub record CanBePooled (t : Texts) (threads : ℕ) : Type 0 where
  pub items : List ScriptItem
  pub reads : ReadsAs t.script items
  pub others : (k : ℕ) → ¬ (PoolsTo threads items (Err k))

-- The script reads, and it is run to a ledger that is saved.
pub record CanBeSaved (t : Texts) (a : Acceptance) : Type 0 where
  pub items : List ScriptItem
  pub reads : ReadsAs t.script items
  pub journal : Journal
  pub passages : List Passage
  pub last : LedgerState
  pub run : HasRun a items usual_orders journal passages last
  pub text : List ℕ
  pub saves : Saves a last (Ok text)

-- There is something to report of on this program. The script reads, and for a replay the journal is that of a legal
-- one. Where threads submit no line is refused for that. A talk reads, a ledger can be saved, and a snapshot is loaded.
-- The script of `bench` is made.
abbrev pub HasReport : Task → Texts → Acceptance → Type 0
HasReport (run file script by steps journal) t a = HasScript t
HasReport (replay file script journal) t a =
    (items : List ScriptItem) × ReadsAs t.script items × IsLegalText a items t
HasReport (bench seed bidders) t a = Unit {0}
HasReport (pool file script threads) t a = CanBePooled t threads
HasReport (talk file script name proc text) t a =
    HasScript t × ((lines : List (ℕ × TalkLine)) × ReadsAsTalk t.third lines)
HasReport (save file script snapshot) t a = CanBeSaved t a
HasReport (resume file snapshot script) t a = ((first : LedgerState) × Loads a t.third (Ok first)) × HasScript t
HasReport _ t a = ⊥

-- What is answered where the text of the contract is typed.
pub record IsAnswered (c : Call) (t : Texts) (task : Task) : Type 0 where
  pub not_refused : c.status ≢ 1
  pub not_stopped : c.status ≢ 8
  pub checked : IsAlone task → IsOrFails c.status 0
  -- what can be done is done: each entry was carried out, and of a talk all that the party does, or something was not
  pub reported : (a : Acceptance) → IsGivenFor task (contract_of task t.contract) a → HasReport task t a
      → IsDone c.status ⊎ Fails c
  -- which of the two the journal tells; what a talk tells is said where talks are
  pub by_journal : IsDone c.status → ¬ (IsAlone task) → ¬ (ReadsTalk task) → c.status ≡ run_status c.journal.entries

pub record TypedIsAccepted (c : Call) (t : Texts) : Type 0 where
  -- The text reads as a program that is typed under some amounts over some unit, and the pivot run on its rows does not
  -- stop, nor the least run where least bounds are sought.
  pub typed : (task : Task) (lists : ProgramLists) (x : Annotations) → Asks c.words task
      → IsTypedAs (contract_of task t.contract) lists x
      → ((stop : Stop) → ¬ (PivotRunEndsWith lists (solved.Unsolved stop)))
      → (IsLeast task → (stop : Stop) → ¬ (LeastRunEndsWith lists (least_solved.Unsolved stop)))
      → IsAnswered c t task
