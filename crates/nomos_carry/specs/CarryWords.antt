-- What the words of a call of `nomos-carry` ask for.
use Rattle.std.specs.Prelude.{◌≡◌, ◌≢◌, ℕ, List, [], ◌∷◌, Option, Some, None, codes}
use Rattle.nomos_words.specs.FindsOne.{FindsOne}
use Rattle.nomos_words.specs.Options.{IsFileWord}

-- what is to be done; each word names a file
pub data CarryTask : Type 0 where
  -- the script is run on the contract, from the ledger of the snapshot or the empty one, and the last ledger is saved
  carry : (file : List ℕ) (snapshot : Option (List ℕ)) (script new : List ℕ) → CarryTask
  -- the ledger of the snapshot is renumbered, and saved
  renumber : (file snapshot new : List ℕ) → CarryTask
  -- the next numbers of the ledger of the snapshot are told
  numbers : (file snapshot : List ℕ) → CarryTask

-- Files of two names: a snapshot is never written over the one that is read.
pub record AreTwoFiles (snapshot new : List ℕ) : Type 0 where
  pub is_snapshot : IsFileWord snapshot
  pub is_new : IsFileWord new
  pub differ : snapshot ≢ new

-- from the ledger of a snapshot
pub record AsksCarry (words : List (List ℕ)) (file snapshot script new : List ℕ) : Type 0 where
  pub are : words ≡ file ∷ snapshot ∷ script ∷ new ∷ []
  pub is_file : IsFileWord file
  pub is_script : IsFileWord script
  pub two : AreTwoFiles snapshot new

-- from the empty ledger, for which `-` stands
pub record AsksBegin (words : List (List ℕ)) (file script new : List ℕ) : Type 0 where
  pub are : words ≡ file ∷ codes "-" ∷ script ∷ new ∷ []
  pub is_file : IsFileWord file
  pub is_script : IsFileWord script
  pub is_new : IsFileWord new

pub record AsksRenumber (words : List (List ℕ)) (file snapshot new : List ℕ) : Type 0 where
  pub are : words ≡ codes "--renumber" ∷ file ∷ snapshot ∷ new ∷ []
  pub is_file : IsFileWord file
  pub two : AreTwoFiles snapshot new

pub record AsksNumbers (words : List (List ℕ)) (file snapshot : List ℕ) : Type 0 where
  pub are : words ≡ codes "--numbers" ∷ file ∷ snapshot ∷ []
  pub is_file : IsFileWord file
  pub is_snapshot : IsFileWord snapshot

-- The words of a call ask for this task.
abbrev pub AsksToCarry : List (List ℕ) → CarryTask → Type 0
AsksToCarry words (carry file (Some snapshot) script new) = AsksCarry words file snapshot script new
AsksToCarry words (carry file None script new) = AsksBegin words file script new
AsksToCarry words (renumber file snapshot new) = AsksRenumber words file snapshot new
AsksToCarry words (numbers file snapshot) = AsksNumbers words file snapshot

-- the words ask for nothing
abbrev pub AskForNothing : List (List ℕ) → Type 0
AskForNothing words = (task : CarryTask) → ¬ (AsksToCarry words task)

-- the line that is printed then
abbrev pub carry_usage : List ℕ
carry_usage =
    codes "usage: nomos-carry FILE SNAP|- SCRIPT NEW | --renumber FILE SNAP NEW | --numbers FILE SNAP\n"

-- ---- files

-- the file of the contract
abbrev pub contract_word : CarryTask → List ℕ
contract_word (carry file snapshot script new) = file
contract_word (renumber file snapshot new) = file
contract_word (numbers file snapshot) = file

-- the same, as a file that each task has
abbrev pub contract_file : CarryTask → Option (List ℕ)
contract_file task = Some (contract_word task)

-- the file of the snapshot, if one is read
abbrev pub snapshot_file : CarryTask → Option (List ℕ)
snapshot_file (carry file snapshot script new) = snapshot
snapshot_file (renumber file snapshot new) = Some snapshot
snapshot_file (numbers file snapshot) = Some snapshot

-- the file of the script, if one is read
abbrev pub script_file : CarryTask → Option (List ℕ)
script_file (carry file snapshot script new) = Some script
script_file (renumber file snapshot new) = None
script_file (numbers file snapshot) = None

-- the file to which the next snapshot is written, if one is
abbrev pub new_file : CarryTask → Option (List ℕ)
new_file (carry file snapshot script new) = Some new
new_file (renumber file snapshot new) = Some new
new_file (numbers file snapshot) = None

-- the words ask for a task of which this is the file
pub record IsFileOf (file_of : CarryTask → Option (List ℕ)) (words : List (List ℕ)) (file : List ℕ) : Type 0 where
  pub task : CarryTask
  pub asks : AsksToCarry words task
  pub is : file_of task ≡ Some file

-- this is the file, if the words ask for a task that has one
abbrev pub Names : (CarryTask → Option (List ℕ)) → List (List ℕ) → Option (List ℕ) → Type 0
Names file_of words file = FindsOne (IsFileOf file_of words) file
