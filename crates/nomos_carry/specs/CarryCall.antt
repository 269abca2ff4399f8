-- One call of `nomos-carry`, as it is seen from outside, and how it ends.
use Rattle.std.specs.Prelude.{◌≡◌, ◌⊎◌, ℕ, List, Option, Some, None}
use Rattle.nomos_accept.specs.AcceptedText.{IsAcceptedAs}
use Rattle.nomos_answers.specs.Outside.{HasText, Input, SinkState, SourceState, input_of}
use Rattle.nomos_answers.specs.Written.{HasWrittenOut}
use Rattle.nomos_top.specs.Outcome.{IsUnaccepted}
use Rattle.nomos_types.specs.Acceptance.{Acceptance, IsAccepted}
use Rattle.nomos_words.specs.Words.{check}
use Rattle.nomos_carrying.specs.CarryDue.{IsCarryDue, IsNumbersDue}
use Rattle.nomos_carrying.specs.Renumbered.{IsRenumberDue}
use Rattle.nomos_carry.specs.CarryWords.{AskForNothing, AsksToCarry, CarryTask, carry, carry_usage, contract_word, numbers, renumber}

-- The words; what each source has left, where it tells that, and its counts of faults; what each sink had and has,
-- where it tells that, and its counts; and the status.
pub record CarryCall : Type 0 where
  pub words : List (List ℕ)
  pub contract : SourceState
  pub snapshot : SourceState
  pub script : SourceState
  pub out : SinkState
  -- where the next snapshot goes
  pub new : SinkState
  pub status : ℕ

-- The texts of the sources.
pub record CarryTexts : Type 0 where
  pub contract : List ℕ
  pub snapshot : List ℕ
  pub script : List ℕ

-- they are what the sources have left, where these tell that
pub record AreCarryTexts (c : CarryCall) (t : CarryTexts) : Type 0 where
  pub contract : HasText c.contract.left t.contract
  pub snapshot : HasText c.snapshot.left t.snapshot
  pub script : HasText c.script.left t.script

-- the texts with the counts of faults of their sources
pub record CarryInputs : Type 0 where
  pub contract : Input
  pub snapshot : Input
  pub script : Input

abbrev pub carry_inputs : CarryCall → CarryTexts → CarryInputs
carry_inputs c t = record {
  contract = input_of c.contract t.contract;
  snapshot = input_of c.snapshot t.snapshot;
  script = input_of c.script t.script;
}

-- the snapshot at which a script begins, where a word names one
abbrev pub snapshot_if : Option (List ℕ) → Input → Option Input
snapshot_if (Some word) snapshot = Some snapshot
snapshot_if None snapshot = None

-- What is due of a task on an accepted contract, with this snapshot and this script: a status, what is to be written to
-- the output, and the next snapshot.
abbrev pub IsDueOnAccepted : Acceptance → Input → Input → CarryTask → ℕ → List ℕ → Option (List ℕ) → Type 0
IsDueOnAccepted a snapshot script (carry file from words new) status out next =
    IsCarryDue a (snapshot_if from snapshot) script status out next
IsDueOnAccepted a snapshot script (renumber file from new) status out next = IsRenumberDue a snapshot status out next
IsDueOnAccepted a snapshot script (numbers file from) status out next =
    IsNumbersDue a snapshot status out × (next ≡ None)

-- What is due of a call. A contract that is not accepted is told as `nomos check` tells it.
pub data IsCallDue (words : List (List ℕ)) (i : CarryInputs) : ℕ → List ℕ → Option (List ℕ) → Type 0 where
  usage : AskForNothing words → IsCallDue words i 4 carry_usage None
  unaccepted : (task : CarryTask) (status : ℕ) (out : List ℕ) → AsksToCarry words task
      → IsUnaccepted (check (contract_word task)) i.contract status out → IsCallDue words i status out None
  accepted : (task : CarryTask) (a : Acceptance) (status : ℕ) (out : List ℕ) (next : Option (List ℕ))
      → AsksToCarry words task → IsAcceptedAs i.contract.text a → IsAccepted a
      → IsDueOnAccepted a i.snapshot i.script task status out next → IsCallDue words i status out next

-- What is due was written, the next snapshot last, or a sink failed.
pub record CarryEndsWritten (c : CarryCall) (i : CarryInputs) : Type 0 where
  pub status : ℕ
  pub out : List ℕ
  pub next : Option (List ℕ)
  pub due : IsCallDue c.words i status out next
  pub written : HasWrittenOut status out next c.out c.new c.status

-- Memory was wanting, and nothing was written.
pub record CarryEndsWithoutMemory (c : CarryCall) : Type 0 where
  pub status : c.status ≡ 7
  pub out : c.out.after ≡ c.out.before
  pub new : c.new.after ≡ c.new.before

-- The call ends so on these texts.
pub record CarryEndsOn (c : CarryCall) (t : CarryTexts) : Type 0 where
  pub told : AreCarryTexts c t
  pub ends : CarryEndsWritten c (carry_inputs c t) ⊎ CarryEndsWithoutMemory c
