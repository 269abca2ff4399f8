-- Whose turn it is to be read, or to be written; what stays untouched; and where a call may wait.
use Rattle.std.specs.Prelude.{◌≡◌, ◌⊎◌, ℕ, List, Option, Some, Ok}
use Rattle.nomos_legal.specs.Ledger.{LedgerState}
use Rattle.nomos_script.specs.ScriptReading.{ReadsAs}
use Rattle.nomos_script.specs.declared.item.ScriptItem.{ScriptItem}
use Rattle.nomos_snapshot.specs.Loading.{Loads}
use Rattle.nomos_top.specs.Seen.{IsDone}
use Rattle.nomos_top.specs.Tasks.{Keeps, ReadsContract, ReadsScript, ReadsSnapshot, ReadsThird, Waits}
use Rattle.nomos_types.specs.Acceptance.{Acceptance}
use Rattle.nomos_words.specs.Words.{Task, Asks}

-- the words ask for a task that reads a contract
abbrev pub WantsContract : List (List ℕ) → Type 0
WantsContract words = (task : Task) × Asks words task × ReadsContract task

-- the words ask for a task that reads a script, and the contract is accepted
abbrev pub WantsScript : List (List ℕ) → Option Acceptance → Type 0
WantsScript words given = (task : Task) × (a : Acceptance) × Asks words task × ReadsScript task × (given ≡ Some a)

-- the words ask for a task that reads a third text, and the contract is accepted
abbrev pub WantsThird : List (List ℕ) → Option Acceptance → Type 0
WantsThird words given = (task : Task) × (a : Acceptance) × Asks words task × ReadsThird task × (given ≡ Some a)

-- the words ask for a task that begins at a snapshot, which is read before the script
abbrev pub WantsSnapshot : List (List ℕ) → Type 0
WantsSnapshot words = (task : Task) × Asks words task × ReadsSnapshot task

-- the words ask for a task that keeps something, which was done, or a sink failed
abbrev pub MayKeep : List (List ℕ) → ℕ → Type 0
MayKeep words status = (task : Task) × Asks words task × Keeps task × (IsDone status ⊎ (status ≡ 6))

-- the sources and the sinks of a call, at one moment
pub record Edges (S K : Type 0) : Type 0 where
  pub contract : S
  pub script : S
  pub journal_in : S
  pub out : K
  pub journal_out : K

-- What the sources of the script and of the third text have left before a call, where they tell that.
pub record TextsLeft : Type 0 where
  pub script : Option (List ℕ)
  pub third : Option (List ℕ)

-- What is not due stays as it was, where the sources tell this of their texts, and the call ends with this status and
-- gives this program.
pub record Untouched {S K : Type 0} (words : List (List ℕ)) (told : TextsLeft) (status : ℕ) (given : Option Acceptance)
    (before after : Edges S K) : Type 0 where
  -- a source before its turn
  pub contract : ¬ (WantsContract words) → after.contract ≡ before.contract
  pub script : ¬ (WantsScript words given) → after.script ≡ before.script
  pub third : ¬ (WantsThird words given) → after.journal_in ≡ before.journal_in
  -- the third text where the script does not read, unless it is a snapshot; the script where the snapshot is not loaded
  pub behind_script : (text : List ℕ) → told.script ≡ Some text → ((items : List ScriptItem) → ¬ (ReadsAs text items))
      → ¬ (WantsSnapshot words) → after.journal_in ≡ before.journal_in
  pub behind_snapshot : (text : List ℕ) (a : Acceptance) → told.third ≡ Some text → given ≡ Some a
      → ((first : LedgerState) → ¬ (Loads a text (Ok first))) → WantsSnapshot words → after.script ≡ before.script
  -- the output where memory was wanting, and the journal's sink where nothing is kept
  pub out : status ≡ 7 → after.out ≡ before.out
  pub journal_out : ¬ (MayKeep words status) → after.journal_out ≡ before.journal_out

-- The words ask for a task that several workers do, each of which may wait for its turn, or in which threads submit. No
-- other call waits for anybody.
abbrev pub MayWait : List (List ℕ) → Type 0
MayWait words = (task : Task) × Asks words task × Waits task
