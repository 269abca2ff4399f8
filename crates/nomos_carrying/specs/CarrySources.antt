-- What is due for what sources have left: for the texts that they tell, or for some texts where they do not tell.
use Rattle.std.specs.Prelude.{◌≡◌, List, ℕ, Some, None}
use Rattle.nomos_answers.specs.Outside.{HasText, SourceState, input_of}
use Rattle.nomos_answers.specs.Sources.{kept_text}
use Rattle.nomos_answers.specs.declared.due.Due.{Due}
use Rattle.nomos_types.specs.Acceptance.{Acceptance}
use Rattle.nomos_carrying.specs.CarryDue.{IsCarryDue, IsNumbersDue}
use Rattle.nomos_carrying.specs.Renumbered.{IsRenumberDue}

-- it is due where a ledger is carried on from the empty one
pub record IsBeginDueFor (a : Acceptance) (script : SourceState) (due : Due) : Type 0 where
  pub text : List ℕ
  pub told : HasText script.left text
  pub is : IsCarryDue a None (input_of script text) due.status due.out.items (kept_text due)

-- it is due where a ledger is carried on from that of a snapshot
pub record IsCarryDueFor (a : Acceptance) (snapshot script : SourceState) (due : Due) : Type 0 where
  pub snapshot_text : List ℕ
  pub snapshot_told : HasText snapshot.left snapshot_text
  pub script_text : List ℕ
  pub script_told : HasText script.left script_text
  pub is : IsCarryDue a (Some (input_of snapshot snapshot_text)) (input_of script script_text) due.status due.out.items
      (kept_text due)

-- it is due where the next numbers of the ledger of a snapshot are told
pub record IsNumbersDueFor (a : Acceptance) (snapshot : SourceState) (due : Due) : Type 0 where
  pub text : List ℕ
  pub told : HasText snapshot.left text
  pub is : IsNumbersDue a (input_of snapshot text) due.status due.out.items
  pub nothing_kept : kept_text due ≡ None

-- it is due where the ledger of a snapshot is renumbered
pub record IsRenumberDueFor (a : Acceptance) (snapshot : SourceState) (due : Due) : Type 0 where
  pub text : List ℕ
  pub told : HasText snapshot.left text
  pub is : IsRenumberDue a (input_of snapshot text) due.status due.out.items (kept_text due)
