-- The task of an errand, and how the parts of a call end, as the code has it. Private clauses alone cite it.
use Rattle.std.specs.Prelude.{◌≡◌, ◌⊎◌, ℕ, List, Option, None, IsSome}
use Rattle.std.specs.Option.{option_map}
use Rattle.nomos_accept.specs.AcceptedText.{IsAcceptedAs}
use Rattle.nomos_answers.specs.Outside.{FaultCounts, HasText, SinkState, SourceState, input_of}
use Rattle.nomos_answers.specs.Sources.{kept_text}
use Rattle.nomos_answers.specs.Written.{HasWrittenOut}
use Rattle.nomos_answers.specs.declared.due.Due.{Due}
use Rattle.nomos_top.specs.Outcome.{IsUnaccepted}
use Rattle.nomos_top.specs.Seen.{IsDone}
use Rattle.nomos_types.specs.Acceptance.{Acceptance, IsAccepted}
use Rattle.nomos_words.specs.Words.{check}
use Rattle.nomos_carry.specs.Alone.{IsUnacceptedStatus}
use Rattle.nomos_carry.specs.CarryCall.{CarryTexts, IsCallDue, IsDueOnAccepted}
use Rattle.nomos_carry.specs.CarryWords.{CarryTask, carry, contract_word, new_file, numbers, renumber, script_file, snapshot_file}
use Rattle.nomos_carry.specs.declared.carry.Edges.{Edges}
use Rattle.nomos_carry.specs.declared.errands.Errand.{Errand}
use Rattle.nomos_carry.specs.declared.errands.Errand.TheVariants as errand

abbrev pub carry_task : Errand → CarryTask
carry_task (errand.Carry file snapshot script new) =
    carry file.now (option_map (λ word. word.now) snapshot) script.now new.now
carry_task (errand.Renumber file snapshot new) = renumber file.now snapshot.now new.now
carry_task (errand.Numbers file snapshot) = numbers file.now snapshot.now

-- ---- what is due of a part of the call

-- what is due on an accepted contract, for texts that the sources have left
pub record Behind (a : Acceptance) (task : CarryTask) (snapshot script : SourceState) (status : ℕ) (out : List ℕ)
    (next : Option (List ℕ)) : Type 0 where
  pub snapshot_text : List ℕ
  pub snapshot_told : HasText snapshot.left snapshot_text
  pub script_text : List ℕ
  pub script_told : HasText script.left script_text
  pub is : IsDueOnAccepted a (input_of snapshot snapshot_text) (input_of script script_text) task status out next

-- the same of what was found to be due
abbrev pub IsDueBehind : Acceptance → CarryTask → SourceState → SourceState → Due → Type 0
IsDueBehind a task snapshot script due = Behind a task snapshot script due.status due.out.items (kept_text due)

-- what is due of a contract with this text, which is not accepted, whatever its source counts
pub record IsRefusalDue (file text : List ℕ) (status : ℕ) (out : List ℕ) (next : Option (List ℕ)) : Type 0 where
  pub is : (counts : FaultCounts) → IsUnaccepted (check file) (record { text = text; counts = counts }) status out
  pub none : next ≡ None

-- what is due of a contract with this text
pub data IsJudgedDue (task : CarryTask) (text : List ℕ) (snapshot script : SourceState) (status : ℕ) (out : List ℕ)
    (next : Option (List ℕ)) : Type 0 where
  refused : IsRefusalDue (contract_word task) text status out next
      → IsJudgedDue task text snapshot script status out next
  behind : (a : Acceptance) → IsAcceptedAs text a → IsAccepted a → Behind a task snapshot script status out next
      → IsJudgedDue task text snapshot script status out next

-- what is due for the words, for texts that the sources have left
pub record IsDueOn (words : List (List ℕ)) (contract snapshot script : SourceState) (status : ℕ) (out : List ℕ)
    (next : Option (List ℕ)) : Type 0 where
  pub texts : CarryTexts
  pub contract_told : HasText contract.left texts.contract
  pub snapshot_told : HasText snapshot.left texts.snapshot
  pub script_told : HasText script.left texts.script
  pub is : IsCallDue words (record {
    contract = input_of contract texts.contract;
    snapshot = input_of snapshot texts.snapshot;
    script = input_of script texts.script;
  }) status out next

-- ---- how a part of the call ends

-- Something that is due so was written, or a sink failed; or memory was wanting, and nothing was written.
pub data Ends (IsDue : ℕ → List ℕ → Option (List ℕ) → Type 0) (out new : SinkState) (ended : ℕ) : Type 0 where
  wrote : (status : ℕ) (bytes : List ℕ) (next : Option (List ℕ)) → IsDue status bytes next
      → HasWrittenOut status bytes next out new ended → Ends IsDue out new ended
  wanted : ended ≡ 7 → out.after ≡ out.before → new.after ≡ new.before → Ends IsDue out new ended

-- what a task leaves as it was, behind words that ask for it
pub record AloneFor {S K : Type 0} (task : CarryTask) (status : ℕ) (before after : Edges S K) : Type 0 where
  pub snapshot : ¬ (IsSome (snapshot_file task)) → after.snapshot ≡ before.snapshot
  pub script : ¬ (IsSome (script_file task)) → after.script ≡ before.script
  pub refused : IsUnacceptedStatus status → (after.snapshot ≡ before.snapshot) × (after.script ≡ before.script)
  pub out : status ≡ 7 → after.out ≡ before.out
  pub next : ¬ (IsSome (new_file task) × (IsDone status ⊎ (status ≡ 6))) → after.next ≡ before.next
