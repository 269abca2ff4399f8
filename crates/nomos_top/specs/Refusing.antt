-- Refusals are true: each has a cause, which is written, and comes wherever that cause is true and nothing before it
-- stands against it. And one text has one answer.
use Rattle.std.specs.Prelude.{◌≡◌, ◌⊎◌, ℕ, List, Some, Result, Err}
use Rattle.nomos_accept.specs.AcceptedText.{IsAcceptedAs, IsCauseOf, IsRefused, PivotRunEndsWith}
use Rattle.nomos_accept.specs.TypedText.{IsReadAs, IsNeverTypedText}
use Rattle.nomos_accept.specs.Causes.{SameCause}
use Rattle.nomos_accept.specs.declared.why.Why.{Why}
use Rattle.nomos_answers.specs.DueLines.{IsNoScript}
use Rattle.nomos_answers.specs.Outside.{input_of}
use Rattle.nomos_answers.specs.Pools.{pool_refusal}
use Rattle.nomos_answers.specs.RunsDue.{HasRun, usual_orders}
use Rattle.nomos_answers.specs.SnapshotLines.{unloaded_line, unsaved_line}
use Rattle.nomos_answers.specs.TalkDue.{IsNoTalk}
use Rattle.nomos_ir.specs.Amounts.{star_count}
use Rattle.nomos_ir.specs.declared.lists.ProgramLists.{ProgramLists}
use Rattle.nomos_least.specs.LeastBounds.{LeastRunEndsWith}
use Rattle.nomos_legal.specs.Ledger.{LedgerState}
use Rattle.nomos_legal.specs.Passage.{Passage}
use Rattle.nomos_legal.specs.declared.journal.Journal.{Journal}
use Rattle.nomos_pool.specs.Pooled.{PoolsTo}
use Rattle.nomos_replay.specs.Answers.{Answers}
use Rattle.nomos_replay.specs.Refusal.{refusal_line}
use Rattle.nomos_replay.specs.Told.{Told}
use Rattle.nomos_replay.specs.declared.error.ReplayError.{ReplayError}
use Rattle.nomos_script.specs.ScriptReading.{ReadsAs, IsSyntaxAt}
use Rattle.nomos_script.specs.TalkReading.{AnswersTalk, IsSameTalk}
use Rattle.nomos_script.specs.declared.item.ScriptItem.{ScriptItem}
use Rattle.nomos_script.specs.declared.talk_line.TalkLine.{TalkLine}
use Rattle.nomos_script.specs.declared.talk_parsing.TalkError.{TalkError}
use Rattle.nomos_simplex.specs.declared.solved.Solved.{Solved}
use Rattle.nomos_simplex.specs.declared.solved.Solved.TheVariants as solved
use Rattle.nomos_simplex.specs.declared.solved.SolvedLeast.{SolvedLeast}
use Rattle.nomos_simplex.specs.declared.solved.SolvedLeast.TheVariants as least
use Rattle.nomos_simplex.specs.declared.solved.Stop.{Stop}
use Rattle.nomos_snapshot.specs.Loading.{LoadAnswer, Loads}
use Rattle.nomos_snapshot.specs.Saving.{Saves}
use Rattle.nomos_snapshot.specs.declared.error.LoadError.{LoadError}
use Rattle.nomos_snapshot.specs.declared.error.SaveError.{SaveError}
use Rattle.nomos_top.specs.Headline.{BeginsAt}
use Rattle.nomos_top.specs.Seen.{Call, Texts, HasWritten, Gives, IsOrFails}
use Rattle.nomos_top.specs.Refusal.{refusal, unsolved_line}
use Rattle.nomos_top.specs.TaskRuns.{HasStopped, HasLeastStopped, HasStoppedFor, IsGivenFor}
use Rattle.nomos_top.specs.Tasks.{AskNothing, KeepsSnapshot, ReadsScript, ReadsJournal, ReadsSnapshot, ReadsTalk, contract_of}
use Rattle.nomos_types.specs.Acceptance.{Acceptance, IsAccepted}
use Rattle.nomos_words.specs.Commands.{row}
use Rattle.nomos_words.specs.Usage.{usage_line}
use Rattle.nomos_words.specs.Words.{Task, Asks}

-- The script is refused: it is too long, or a line of it has no reading; or, where threads submit its single lines,
-- another item stands behind the first of them. This is written then.
pub data IsBadScript (c : Call) (t : Texts) (task : Task) : List ℕ → Type 0 where
  unread : (line : List ℕ) → IsNoScript (input_of c.script t.script) 2 line → IsBadScript c t task line
  unpooled : (threads : ℕ) (items : List ScriptItem) (k : ℕ) → (row task).threads ≡ Some threads
      → ReadsAs t.script items → PoolsTo threads items (Err k) → IsBadScript c t task (pool_refusal k)

-- the journal is too long, or a line spoils it, on this program with the items of the script
pub record IsBadJournal (t : Texts) (a : Acceptance) (why : ReplayError) : Type 0 where
  pub items : List ScriptItem
  pub reads : ReadsAs t.script items
  pub answers : Answers a items t.third (Err why)

-- the text of a talk is too long, or a line of it has no form, and the script reads: what is written then
pub record IsBadTalk (c : Call) (t : Texts) (line : List ℕ) : Type 0 where
  pub items : List ScriptItem
  pub reads : ReadsAs t.script items
  pub bad : IsNoTalk (input_of c.journal_in t.third) 10 line

-- The script reads, and this is the ledger to which it is run.
pub record IsLastLedger (t : Texts) (a : Acceptance) (last : LedgerState) : Type 0 where
  pub items : List ScriptItem
  pub reads : ReadsAs t.script items
  pub journal : Journal
  pub passages : List Passage
  pub run : HasRun a items usual_orders journal passages last

-- The snapshot that is read is not loaded, or the ledger that is to be saved is not: what is written then.
pub data IsBadSnapshot (t : Texts) (a : Acceptance) (task : Task) : List ℕ → Type 0 where
  unloaded : (why : LoadError) → ReadsSnapshot task → Loads a t.third (Err why)
      → IsBadSnapshot t a task (unloaded_line why)
  unsaved : (last : LedgerState) (why : SaveError) → KeepsSnapshot task → IsLastLedger t a last → Saves a last (Err why)
      → IsBadSnapshot t a task (unsaved_line why)

-- what is known where a task is asked for and a program is given for it
pub record IsBehind (c : Call) (Reads : Task → Type 0) (a : Acceptance) : Type 0 where
  pub task : Task
  pub asks : Asks c.words task
  pub reads : Reads task
  pub gives : Gives c a

pub record RefusesTruly (c : Call) (t : Texts) : Type 0 where
  -- the words have no form; then no source is read, so that none can fail
  pub usage : c.status ≡ 4 → AskNothing c.words × HasWritten c usage_line
  pub no_task : AskNothing c.words → (c.status ≡ 4) ⊎ ((c.status ≡ 6) ⊎ (c.status ≡ 7))
  -- the text of the contract has a cause of refusal, and is typed under no amounts over any unit
  pub refused : c.status ≡ 1
      → (task : Task) × (why : Why) × Asks c.words task × IsRefused (contract_of task t.contract) why
      × HasWritten c (refusal why)
  pub caused : (task : Task) (why : Why) → Asks c.words task → IsCauseOf (contract_of task t.contract) why
      → IsOrFails c.status 1
  -- each part of its program has a skeleton, and the run that the task asks for stops
  pub stopped : c.status ≡ 8
      → (task : Task) × (stop : Stop) × Asks c.words task × HasStoppedFor task (contract_of task t.contract) stop
      × HasWritten c (unsolved_line stop)
  pub stops : (task : Task) (stop : Stop) → Asks c.words task → HasStoppedFor task (contract_of task t.contract) stop
      → IsOrFails c.status 8
  -- the contract is accepted, there is a ledger to begin at, and the script is refused
  pub bad_script : c.status ≡ 2
      → (a : Acceptance) × (first : LedgerState) × (line : List ℕ) × (k : IsBehind c ReadsScript a)
      × BeginsAt k.task a t first × IsBadScript c t k.task line × HasWritten c line
  pub script_is_bad : (task : Task) (a : Acceptance) (first : LedgerState) (line : List ℕ) → Asks c.words task
      → ReadsScript task → IsGivenFor task (contract_of task t.contract) a → BeginsAt task a t first
      → IsBadScript c t task line → IsOrFails c.status 2
  -- the contract is accepted, the script reads, and the journal is too long or has a line that spoils it
  pub bad_journal : c.status ≡ 9
      → (a : Acceptance) × (why : ReplayError) × IsBehind c ReadsJournal a × IsBadJournal t a why
      × HasWritten c (refusal_line a.annotations.unit why)
  pub journal_is_bad : (task : Task) (a : Acceptance) (why : ReplayError) → Asks c.words task → ReadsJournal task
      → IsGivenFor task (contract_of task t.contract) a → IsBadJournal t a why → IsOrFails c.status 9
  -- the contract is accepted, the script reads, and the text of the talk is too long or has a line without a form
  pub bad_talk : c.status ≡ 10
      → (a : Acceptance) × (line : List ℕ) × IsBehind c ReadsTalk a × IsBadTalk c t line × HasWritten c line
  pub talk_is_bad : (task : Task) (a : Acceptance) (line : List ℕ) → Asks c.words task → ReadsTalk task
      → IsGivenFor task (contract_of task t.contract) a → IsBadTalk c t line → IsOrFails c.status 10
  -- the contract is accepted, and the snapshot is not loaded; or the script is run, and the ledger is not saved
  pub bad_snapshot : c.status ≡ 11
      → (task : Task) × (a : Acceptance) × (line : List ℕ) × Asks c.words task × Gives c a
      × IsBadSnapshot t a task line × HasWritten c line
  pub snapshot_is_bad : (task : Task) (a : Acceptance) (line : List ℕ) → Asks c.words task
      → IsGivenFor task (contract_of task t.contract) a → IsBadSnapshot t a task line → IsOrFails c.status 11

-- ---- one answer, of every text

pub record HasOneAnswer (text : List ℕ) : Type 0 where
  -- it reads as one program at most
  pub reads_once : (a b : ProgramLists) → IsReadAs text a → IsReadAs text b → a ≡ b
  -- it is refused by one step of the checker at most, and at one place; a stuck instruction has one form
  pub one_cause : (v w : Why) → IsCauseOf text v → IsCauseOf text w → SameCause v w
  -- a cause rules out all amounts: where one is true of it, it is typed under none, over any unit
  pub cause_rules_out : (why : Why) → IsCauseOf text why → IsNeverTypedText text
  -- what is written of a refusal is fixed by it
  pub one_refusal : (v w : Why) → IsCauseOf text v → IsCauseOf text w → refusal v ≡ refusal w
  -- The pivot run on the rows of its program has one end: so the amounts of a check, the weights of a refusal without
  -- potential, and a stop are fixed by it.
  pub one_end : (lists : ProgramLists) (a b : Solved) → IsReadAs text lists → PivotRunEndsWith lists a
      → PivotRunEndsWith lists b → a ≡ b
  -- The least run on these rows and what its transactions declare has one end: so least bounds, with the weights that
  -- show them, are fixed by it.
  pub one_least_end : (lists : ProgramLists) (a b : SolvedLeast) → IsReadAs text lists → LeastRunEndsWith lists a
      → LeastRunEndsWith lists b → a ≡ b
  -- where a cause is true of it, neither run stops
  pub caused_goes_on : (why : Why) (stop : Stop) → IsCauseOf text why
      → ¬ (HasStopped text stop) × ¬ (HasLeastStopped text stop)
  -- without a star neither run stops
  pub solved_without_stars : (lists : ProgramLists) (stop : Stop) → IsReadAs text lists → star_count lists ≡ 0
      → ¬ (PivotRunEndsWith lists (solved.Unsolved stop)) × ¬ (LeastRunEndsWith lists (least.Unsolved stop))
  -- it is accepted as one program with amounts at most
  pub accepted_once : (a b : Acceptance) → IsAcceptedAs text a → IsAcceptedAs text b → a ≡ b

-- The same of a text as a script, as what is said in a talk, and as a journal of a script, or a snapshot, on an
-- accepted program.
pub record HasOneReading (text : List ℕ) : Type 0 where
  pub reads_once : (items others : List ScriptItem) → ReadsAs text items → ReadsAs text others → items ≡ others
  pub one_line : (j k : ℕ) → IsSyntaxAt text j → IsSyntaxAt text k → j ≡ k
  pub not_both : (items : List ScriptItem) (k : ℕ) → ReadsAs text items → ¬ (IsSyntaxAt text k)
  pub told_once : (a : Acceptance) (items : List ScriptItem) (x y : Result Told ReplayError) → IsAccepted a
      → Answers a items text x → Answers a items text y → x ≡ y
  -- of a talk there is one answer, unless memory is wanting
  pub talk_once : (x y : Result (List (ℕ × TalkLine)) TalkError) → AnswersTalk text x → AnswersTalk text y
      → IsSameTalk x y
  -- a snapshot is loaded as one ledger, or not for one reason
  pub loaded_once : (a : Acceptance) (x y : LoadAnswer) → IsAccepted a → Loads a text x → Loads a text y → x ≡ y
