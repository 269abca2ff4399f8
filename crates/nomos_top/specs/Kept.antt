-- The journal of a call: every one is legal, goes right, and with one worker follows the policy.
use Rattle.std.specs.Prelude.{◌≡◌, ◌≢◌, ◌⊎◌, ℕ, List, take}
use Rattle.nomos_answers.specs.Outside.{HaveRisen}
use Rattle.nomos_journal.specs.JournalText.{IsTextOf}
use Rattle.nomos_journal.specs.declared.line.Version.{Version}
use Rattle.nomos_legal.specs.Ledger.{LedgerState}
use Rattle.nomos_legal.specs.Legal.{FollowPolicy, TellsFrom}
use Rattle.nomos_legal.specs.Passage.{Passage}
use Rattle.nomos_legal.specs.declared.journal.Journal.{Journal}
use Rattle.nomos_machine.specs.declared.policy.Policy.{Policy}
use Rattle.nomos_script.specs.declared.item.ScriptItem.{ScriptItem}
use Rattle.nomos_top.specs.Seen.{Call, Texts, Gives, IsDone}
use Rattle.nomos_top.specs.Complete.{HasReport}
use Rattle.nomos_top.specs.Headline.{BeginsAt, GoesRightTo, HasNoEntry, IsScriptOf}
use Rattle.nomos_top.specs.TaskRuns.{IsByOne, IsGivenFor, limit_of}
use Rattle.nomos_top.specs.Tasks.{AskNothing, IsAlone, RunsScript, contract_of}
use Rattle.nomos_types.specs.Acceptance.{Acceptance}
use Rattle.nomos_words.specs.Words.{Task, replay, Asks}

-- Whose journal it is: that of the words' limit; for a replay the one whose text was read, in either version.
abbrev pub IsOwn : Task → Acceptance → List ScriptItem → List ℕ → Journal → Type 0
IsOwn (replay file script kept) a items text journal = (v : Version) × IsTextOf v a items journal text
IsOwn task a items text journal = journal.limit ≡ limit_of task

-- The script that a call carries out, and what became of all of it by the journal, which is legal from the first ledger
-- and has an entry for each deposit and each batch.
pub record CarriesOut (c : Call) (t : Texts) : Type 0 where
  pub task : Task
  pub asks : Asks c.words task
  pub scripted : ¬ (IsAlone task)
  pub a : Acceptance
  pub gives : Gives c a
  pub first : LedgerState
  pub begins : BeginsAt task a t first
  pub items : List ScriptItem
  pub script : IsScriptOf c t task items
  pub passages : List Passage
  pub last : LedgerState
  pub tells : TellsFrom a first items c.journal passages last
  pub own : IsOwn task a items t.third c.journal

-- The same of some first items, where a script is run.
pub record CarriesOutSome (c : Call) (t : Texts) : Type 0 where
  pub task : Task
  pub asks : Asks c.words task
  pub runs : RunsScript task
  pub a : Acceptance
  pub gives : Gives c a
  pub first : LedgerState
  pub begins : BeginsAt task a t first
  pub items : List ScriptItem
  pub script : IsScriptOf c t task items
  pub count : ℕ
  pub passages : List Passage
  pub last : LedgerState
  pub tells : TellsFrom a first (take count items) c.journal passages last
  pub limit : c.journal.limit ≡ limit_of task

-- a source failed in this call
abbrev pub SourceFailed : Call → Type 0
SourceFailed c = HaveRisen c.contract.counts ⊎ (HaveRisen c.script.counts ⊎ HaveRisen c.journal_in.counts)

-- Every journal that is kept is legal.
pub record KeptIsLegal (c : Call) (t : Texts) : Type 0 where
  -- where a report, or a summary, was written
  pub done : (task : Task) → Asks c.words task → IsDone c.status → IsAlone task ⊎ CarriesOut c t
  -- where it was due, and a sink failed
  pub unwritten : (task : Task) (a : Acceptance) → Asks c.words task → c.status ≡ 6
      → IsGivenFor task (contract_of task t.contract) a → HasReport task t a → CarriesOut c t ⊎ SourceFailed c
  pub with_unwritten : c.status ≡ 6 → HasNoEntry c ⊎ CarriesOut c t
  -- where memory was wanting; a replay then has none
  pub in_part : c.status ≡ 7 → HasNoEntry c ⊎ CarriesOutSome c t
  -- otherwise there is none
  pub nothing : ¬ (IsDone c.status) → c.status ≢ 6 → c.status ≢ 7 → HasNoEntry c
  pub alone : (task : Task) → Asks c.words task → IsAlone task → HasNoEntry c
  pub no_task : AskNothing c.words → HasNoEntry c

-- Every journal that is kept goes right, from the ledger at which the task begins.
pub record KeptGoesRight (c : Call) (t : Texts) : Type 0 where
  pub right : (task : Task) (a : Acceptance) (first : LedgerState) (items : List ScriptItem) (passages : List Passage)
      (last : LedgerState) → Asks c.words task → Gives c a → BeginsAt task a t first
      → TellsFrom a first items c.journal passages last → GoesRightTo a first passages last

-- One worker follows the policy: in its firings, and in the process with whose fault a batch ends.
pub record OneWorkerFollows (c : Call) (t : Texts) : Type 0 where
  pub all : c.status ≢ 7 → (policy : Policy) (run : CarriesOut c t) → IsByOne run.task policy
      → FollowPolicy policy run.a run.passages
  pub in_part : c.status ≡ 7 → HasNoEntry c
      ⊎ ((run : CarriesOutSome c t) × ((policy : Policy) → IsByOne run.task policy
      → FollowPolicy policy run.a run.passages))
