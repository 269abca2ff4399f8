-- What the task of a call asks for, by the table of commands: of which kind it is, and whose text its contract and its
-- script are.
use Rattle.std.specs.Prelude.{◌⊎◌, ℕ, List, [], IsSome, codes}
use Rattle.nomos_words.specs.Commands.{IsFromFile, IsJournal, IsJournalKept, IsNowhere, IsRun, IsSnapshot, IsSnapshotKept, IsSought, IsSubmitted, IsTalkText, RunsByCrew, Third, a_journal, a_snapshot, a_talk, kept_word, no_third, row, text_by, third_word}
use Rattle.nomos_words.specs.Words.{Task, Asks}

-- the words of a call ask for nothing
abbrev pub AskNothing : List (List ℕ) → Type 0
AskNothing words = (task : Task) → ¬ (Asks words task)

-- ---- kinds of tasks

-- least bounds are sought
abbrev pub IsLeast : Task → Type 0
IsLeast task = IsSought (row task).least

-- the contract alone is asked about: a check, or least bounds
abbrev pub IsAlone : Task → Type 0
IsAlone task = IsNowhere (row task).script

-- the contract is read; that of `bench` is given
abbrev pub ReadsContract : Task → Type 0
ReadsContract task = IsFromFile (row task).contract

-- a script is read
abbrev pub ReadsScript : Task → Type 0
ReadsScript task = IsFromFile (row task).script

-- a script is run: one that is read, or the one that is made for `bench`
abbrev pub RunsScript : Task → Type 0
RunsScript task = IsRun (row task).runs

-- several workers run it
abbrev pub IsByCrew : Task → Type 0
IsByCrew task = RunsByCrew (row task).runs

-- threads submit its single lines
abbrev pub IsPooled : Task → Type 0
IsPooled task = IsSubmitted (row task).threads

-- its call may wait: several workers run its script, or threads submit the lines of it
abbrev pub Waits : Task → Type 0
Waits task = IsByCrew task ⊎ IsPooled task

-- a journal is read
abbrev pub ReadsJournal : Task → Type 0
ReadsJournal task = IsJournal (row task).third

-- a snapshot is read, at whose ledger the script begins
abbrev pub ReadsSnapshot : Task → Type 0
ReadsSnapshot task = IsSnapshot (row task).third

-- the text of a talk is read
abbrev pub ReadsTalk : Task → Type 0
ReadsTalk task = IsTalkText (row task).third

-- some third text is read
abbrev pub ReadsThird : Task → Type 0
ReadsThird task = IsSome (third_word (row task).third)

-- the journal is kept
abbrev pub KeepsJournal : Task → Type 0
KeepsJournal task = IsJournalKept (row task).kept

-- the ledger is saved
abbrev pub KeepsSnapshot : Task → Type 0
KeepsSnapshot task = IsSnapshotKept (row task).kept

-- something is kept
abbrev pub Keeps : Task → Type 0
Keeps task = IsSome (kept_word (row task).kept)

-- what the third text is called where it cannot be read
abbrev pub third_name : Third → List ℕ
third_name no_third = []
third_name (a_journal word) = codes "journal"
third_name (a_snapshot word) = codes "snapshot"
third_name (a_talk word) = codes "talk"

-- ---- texts

-- the text of the contract, where its source has this one: for `bench` the auction
abbrev pub contract_of : Task → List ℕ → List ℕ
contract_of task text = text_by (row task).contract text

-- the text of the script, where its source has this one: for `bench` the one that is made
abbrev pub script_of : Task → List ℕ → List ℕ
script_of task text = text_by (row task).script text
