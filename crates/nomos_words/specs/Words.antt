-- Which words of a call ask for which task.
use Rattle.std.specs.Prelude.{◌≡◌, ◌<◌, ◌^◌, ℕ, List, [], ◌∷◌, Option, IfSome, codes, decimal}
use Rattle.nomos_words.specs.Options.{AreOptions, AreSteps, AreWorkers, IsCount, IsFileWord, option_value}
use Rattle.nomos_words.specs.declared.workers.Workers.{Workers}

-- what is to be done
pub data Task : Type 0 where
  -- the contract in this file is checked
  check : (file : List ℕ) → Task
  -- the script in the second file is run on the contract in the first, by these workers, each batch for at most so many
  -- firings, and the journal is kept in this file, if any
  run : (file script : List ℕ) (workers : Workers) (steps : ℕ) (journal : Option (List ℕ)) → Task
  -- the journal in the third file is replayed, of the script in the second on the contract in the first
  replay : (file script journal : List ℕ) → Task
  -- the generated auction is run, with bids drawn from this seed, of so many bidders
  bench : (seed bidders : ℕ) → Task
  -- the least bounds of the contract in this file are sought
  least : (file : List ℕ) → Task
  -- the script in the second file is run on the contract in the first, with its single lines in an order in which so
  -- many threads submit them
  pool : (file script : List ℕ) (threads : ℕ) → Task
  -- the script in the second file is run on the contract in the first. Behind it a party from outside, for whom the
  -- account of this name pays, talks on a channel that the process of this name offers, as the text in this file says
  talk : (file script name proc text : List ℕ) → Task
  -- the script in the second file is run on the contract in the first, and the ledger is saved in the third
  save : (file script snapshot : List ℕ) → Task
  -- the script in the third file is run on the contract in the first, from the ledger that is saved in the second
  resume : (file snapshot script : List ℕ) → Task

-- the word that each task begins with
abbrev pub command : Task → List ℕ
command (check file) = codes "check"
command (run file script workers steps journal) = codes "run"
command (replay file script journal) = codes "replay"
command (bench seed bidders) = codes "bench"
command (least file) = codes "least"
command (pool file script threads) = codes "pool"
command (talk file script name proc text) = codes "talk"
command (save file script snapshot) = codes "save"
command (resume file snapshot script) = codes "resume"

-- one file
pub record AsksFile (words : List (List ℕ)) (file : List ℕ) : Type 0 where
  pub are : words ≡ file ∷ []
  pub is_file : IsFileWord file

-- three files
pub record AsksFiles (words : List (List ℕ)) (first second third : List ℕ) : Type 0 where
  pub are : words ≡ first ∷ second ∷ third ∷ []
  pub is_first : IsFileWord first
  pub is_second : IsFileWord second
  pub is_third : IsFileWord third

-- the files of a contract and of a script, and behind them what the options say of a run
pub record AsksRun (words : List (List ℕ)) (file script : List ℕ) (workers : Workers) (steps : ℕ)
    (journal : Option (List ℕ)) : Type 0 where
  pub behind : List (List ℕ)
  pub options : List (List ℕ × List ℕ)
  pub are : words ≡ file ∷ script ∷ behind
  pub is_file : IsFileWord file
  pub is_script : IsFileWord script
  pub are_options : AreOptions behind options
  pub workers_are : AreWorkers (option_value (codes "--workers") options)
      (option_value (codes "--policy") options) workers
  pub steps_are : AreSteps (option_value (codes "--steps") options) steps
  pub journal_is : journal ≡ option_value (codes "--journal") options
  pub journal_is_file : IfSome journal IsFileWord

-- a word is a number of 64 bits, in decimal without leading zeros
abbrev pub IsSeed : List ℕ → ℕ → Type 0
IsSeed word n = (n < 2 ^ 64) × (word ≡ decimal n)

-- a seed, and from 1 to 10,000 bidders
pub record AsksLoad (words : List (List ℕ)) (seed bidders : ℕ) : Type 0 where
  pub seed_word : List ℕ
  pub bidders_word : List ℕ
  pub are : words ≡ seed_word ∷ bidders_word ∷ []
  pub is_seed : IsSeed seed_word seed
  pub are_bidders : IsCount 10000 bidders_word bidders

-- the files of a contract and of a script, and from 1 to 8 threads
pub record AsksPool (words : List (List ℕ)) (file script : List ℕ) (threads : ℕ) : Type 0 where
  pub threads_word : List ℕ
  pub are : words ≡ file ∷ script ∷ threads_word ∷ []
  pub is_file : IsFileWord file
  pub is_script : IsFileWord script
  pub are_threads : IsCount 8 threads_word threads

-- the files of a contract and of a script, any two words, and the file of what is said in a talk
pub record AsksTalk (words : List (List ℕ)) (file script name proc text : List ℕ) : Type 0 where
  pub are : words ≡ file ∷ script ∷ name ∷ proc ∷ text ∷ []
  pub is_file : IsFileWord file
  pub is_script : IsFileWord script
  pub is_text : IsFileWord text

-- what stands behind the command of a task
abbrev pub AreOperands : List (List ℕ) → Task → Type 0
AreOperands words (check file) = AsksFile words file
AreOperands words (run file script workers steps journal) = AsksRun words file script workers steps journal
AreOperands words (replay file script journal) = AsksFiles words file script journal
AreOperands words (bench seed bidders) = AsksLoad words seed bidders
AreOperands words (least file) = AsksFile words file
AreOperands words (pool file script threads) = AsksPool words file script threads
AreOperands words (talk file script name proc text) = AsksTalk words file script name proc text
AreOperands words (save file script snapshot) = AsksFiles words file script snapshot
AreOperands words (resume file snapshot script) = AsksFiles words file snapshot script

-- the words of a call ask for this task
abbrev pub Asks : List (List ℕ) → Task → Type 0
Asks [] task = ⊥
Asks (word ∷ words) task = (word ≡ command task) × AreOperands words task
