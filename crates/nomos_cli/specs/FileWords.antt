-- Which words name the files of a call.
use Rattle.std.specs.Prelude.{◌≡◌, ℕ, List, Option, Some}
use Rattle.nomos_words.specs.Commands.{CommandRow, file_word, kept_word, row, third_word}
use Rattle.nomos_words.specs.FindsOne.{FindsOne}
use Rattle.nomos_words.specs.Words.{Task, Asks}

-- the file of the contract, if it is read
abbrev pub contract_file : CommandRow → Option (List ℕ)
contract_file r = file_word r.contract

-- the file of the script, if it is read
abbrev pub script_file : CommandRow → Option (List ℕ)
script_file r = file_word r.script

-- the file of the third text, a journal, a snapshot or what is said in a talk, if one is read
abbrev pub third_file : CommandRow → Option (List ℕ)
third_file r = third_word r.third

-- the file in which a journal or a snapshot is kept, if one is
abbrev pub kept_file : CommandRow → Option (List ℕ)
kept_file r = kept_word r.kept

-- the words ask for a task of which this is the file
pub record IsFileOf (file_of : CommandRow → Option (List ℕ)) (words : List (List ℕ)) (file : List ℕ) : Type 0 where
  pub task : Task
  pub asks : Asks words task
  pub is : file_of (row task) ≡ Some file

-- this is the file, if the words ask for a task that has one
abbrev pub Names : (CommandRow → Option (List ℕ)) → List (List ℕ) → Option (List ℕ) → Type 0
Names file_of words file = FindsOne (IsFileOf file_of words) file
