-- How one call of `nomos` ends.
use Rattle.std.specs.Prelude.{◌≡◌, ◌⊎◌, ℕ, List, Option, Some}
use Rattle.nomos_answers.specs.Outside.{input_of}
use Rattle.nomos_answers.specs.Written.{HasWrittenOut}
use Rattle.nomos_top.specs.Outcome.{Inputs, Outcome, IsDue, IsPart}
use Rattle.nomos_top.specs.Seen.{Call, Texts, AreTold}
use Rattle.nomos_types.specs.Acceptance.{Acceptance, IsAccepted}

abbrev pub inputs_of : Call → Texts → Inputs
inputs_of c t = record {
  contract = input_of c.contract t.contract;
  script = input_of c.script t.script;
  third = input_of c.journal_in t.third;
}

-- what the call gives, with this status and these texts to be written
abbrev pub outcome_with : Call → ℕ → List ℕ → Option (List ℕ) → Outcome
outcome_with c status out kept = record {
  status = status;
  out = out;
  kept = kept;
  accepted = c.accepted;
  journal = c.journal;
  taken = c.taken;
}

-- that is due
abbrev pub IsDueOf : Call → Inputs → ℕ → List ℕ → Option (List ℕ) → Type 0
IsDueOf c i status out kept = IsDue c.words i (outcome_with c status out kept)

-- What is due was written, or a sink failed.
pub record EndsWritten (c : Call) (i : Inputs) : Type 0 where
  pub status : ℕ
  pub out : List ℕ
  pub kept : Option (List ℕ)
  pub due : IsDueOf c i status out kept
  pub written : HasWrittenOut status out kept c.out c.journal_out c.status

-- Memory was wanting, and nothing was written.
pub record EndsWithoutMemory (c : Call) (i : Inputs) : Type 0 where
  pub status : c.status ≡ 7
  pub out : c.out.after ≡ c.out.before
  pub journal_out : c.journal_out.after ≡ c.journal_out.before
  pub part : IsPart c.words i c.accepted c.journal c.taken

-- The call ends so on these texts. A program that is given is one that is typed, and all its numbers fit.
pub record EndsOn (c : Call) (t : Texts) : Type 0 where
  pub told : AreTold c t
  pub fits : (a : Acceptance) → c.accepted ≡ Some a → IsAccepted a
  pub ends : EndsWritten c (inputs_of c t) ⊎ EndsWithoutMemory c (inputs_of c t)

-- There are texts, those that the sources tell, on which the call ends so.
abbrev pub HasEnded : Call → Type 0
HasEnded c = (t : Texts) × EndsOn c t
