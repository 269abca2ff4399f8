-- The table of commands: of each task what is read, what is kept, and who runs a script.
use Rattle.std.specs.Prelude.{◌≡◌, ℕ, List, Bool, true, false, Option, Some, None}
use Rattle.nomos_machine.specs.declared.policy.Policy.{Policy}
use Rattle.nomos_machine.specs.declared.policy.Policy.TheVariants.{First}
use Rattle.nomos_words.specs.BenchLoad.{auction_text, load_script}
use Rattle.nomos_words.specs.Options.{usual_limit}
use Rattle.nomos_words.specs.Words.{Task, check, run, replay, bench, least, pool, talk, save, resume}
use Rattle.nomos_words.specs.declared.workers.Workers.{Workers}
use Rattle.nomos_words.specs.declared.workers.Workers.TheVariants.{One, Many}

-- where a contract or a script comes from
pub data Origin : Type 0 where
  -- there is none
  nowhere : Origin
  -- it is read, from the file that this word names
  from_file : (word : List ℕ) → Origin
  -- it is this one, and nothing is read
  made : (text : List ℕ) → Origin

-- the text that is read besides a contract and a script, if one is, from the file that this word names
pub data Third : Type 0 where
  no_third : Third
  -- the journal that is replayed
  a_journal : (word : List ℕ) → Third
  -- the snapshot of the ledger at which the script begins
  a_snapshot : (word : List ℕ) → Third
  -- what a party from outside says, and when it listens, behind the script
  a_talk : (word : List ℕ) → Third

-- what is kept, if anything is, in the file that this word names
pub data Kept : Type 0 where
  nothing_kept : Kept
  -- the text of the journal
  journal_kept : (word : List ℕ) → Kept
  -- the snapshot of the ledger to which the script led
  snapshot_kept : (word : List ℕ) → Kept

-- what a command asks for
pub record CommandRow : Type 0 where
  pub contract : Origin
  pub script : Origin
  pub third : Third
  pub kept : Kept
  -- who runs the script, where one is run
  pub runs : Option Workers
  -- how many threads submit the single lines of the script, where threads do
  pub threads : Option ℕ
  -- the most firings of a batch
  pub limit : ℕ
  -- the least bounds are sought, in place of any amounts
  pub least : Bool

-- the journal is kept in this file, if there is one
abbrev pub journal_if : Option (List ℕ) → Kept
journal_if None = nothing_kept
journal_if (Some word) = journal_kept word

-- the contract alone is asked about
abbrev pub row_alone : List ℕ → Bool → CommandRow
row_alone file sought = record {
  contract = from_file file;
  script = nowhere;
  third = no_third;
  kept = nothing_kept;
  runs = None;
  threads = None;
  limit = usual_limit;
  least = sought;
}

-- a script that is read is run by one worker, in the usual way, and nothing is kept
abbrev pub row_usual : List ℕ → List ℕ → CommandRow
row_usual file script = record {
  contract = from_file file;
  script = from_file script;
  third = no_third;
  kept = nothing_kept;
  runs = Some (One First);
  threads = None;
  limit = usual_limit;
  least = false;
}

-- a row for each command, as the usage line has them
abbrev pub row : Task → CommandRow
row (check file) = row_alone file false
row (run file script workers steps journal) = record {
  contract = from_file file;
  script = from_file script;
  third = no_third;
  kept = journal_if journal;
  runs = Some workers;
  threads = None;
  limit = steps;
  least = false;
}
row (replay file script journal) = record {
  contract = from_file file;
  script = from_file script;
  third = a_journal journal;
  kept = nothing_kept;
  runs = None;
  threads = None;
  limit = usual_limit;
  least = false;
}
row (bench seed bidders) = record {
  contract = made auction_text;
  script = made (load_script seed bidders);
  third = no_third;
  kept = nothing_kept;
  runs = Some (One First);
  threads = None;
  limit = usual_limit;
  least = false;
}
row (least file) = row_alone file true
row (pool file script threads) = record (row_usual file script) { threads = Some threads }
row (talk file script name proc text) = record (row_usual file script) { third = a_talk text }
row (save file script snapshot) = record (row_usual file script) { kept = snapshot_kept snapshot }
row (resume file snapshot script) = record (row_usual file script) { third = a_snapshot snapshot }

-- ---- what is said of a contract's and a script's origin

-- there is no such text
abbrev pub IsNowhere : Origin → Type 0
IsNowhere nowhere = Unit {0}
IsNowhere _ = ⊥

-- it is read from a file
abbrev pub IsFromFile : Origin → Type 0
IsFromFile (from_file word) = Unit {0}
IsFromFile _ = ⊥

-- the word that names its file, where it is read from one
abbrev pub file_word : Origin → Option (List ℕ)
file_word (from_file word) = Some word
file_word _ = None

-- the text, where the source of those that are read has this one
abbrev pub text_by : Origin → List ℕ → List ℕ
text_by (made text) read = text
text_by _ read = read

-- ---- what is said of the third text

-- it is a journal
abbrev pub IsJournal : Third → Type 0
IsJournal (a_journal word) = Unit {0}
IsJournal _ = ⊥

-- it is a snapshot
abbrev pub IsSnapshot : Third → Type 0
IsSnapshot (a_snapshot word) = Unit {0}
IsSnapshot _ = ⊥

-- it is what is said in a talk
abbrev pub IsTalkText : Third → Type 0
IsTalkText (a_talk word) = Unit {0}
IsTalkText _ = ⊥

-- the word that names its file, where one is read
abbrev pub third_word : Third → Option (List ℕ)
third_word no_third = None
third_word (a_journal word) = Some word
third_word (a_snapshot word) = Some word
third_word (a_talk word) = Some word

-- ---- what is said of what is kept

-- it is the text of the journal
abbrev pub IsJournalKept : Kept → Type 0
IsJournalKept (journal_kept word) = Unit {0}
IsJournalKept _ = ⊥

-- it is a snapshot
abbrev pub IsSnapshotKept : Kept → Type 0
IsSnapshotKept (snapshot_kept word) = Unit {0}
IsSnapshotKept _ = ⊥

-- the word that names its file, where something is kept
abbrev pub kept_word : Kept → Option (List ℕ)
kept_word nothing_kept = None
kept_word (journal_kept word) = Some word
kept_word (snapshot_kept word) = Some word

-- ---- what is said of who runs a script, and who submits its lines

-- a script is run
abbrev pub IsRun : Option Workers → Type 0
IsRun (Some workers) = Unit {0}
IsRun None = ⊥

-- one worker runs it, by this policy
abbrev pub RunsByOne : Option Workers → Policy → Type 0
RunsByOne (Some (One chosen)) policy = policy ≡ chosen
RunsByOne _ policy = ⊥

-- several workers run it
abbrev pub RunsByCrew : Option Workers → Type 0
RunsByCrew (Some (Many count)) = Unit {0}
RunsByCrew _ = ⊥

-- threads submit its single lines
abbrev pub IsSubmitted : Option ℕ → Type 0
IsSubmitted (Some threads) = Unit {0}
IsSubmitted None = ⊥

-- least bounds are sought
abbrev pub IsSought : Bool → Type 0
IsSought true = Unit {0}
IsSought false = ⊥
