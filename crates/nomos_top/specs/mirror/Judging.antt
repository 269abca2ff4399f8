-- What the code of the top call finds and makes. Private clauses alone cite it.
use Rattle.std.specs.Prelude.{◌≡◌, ℕ, List, Option, Some, None, Result, Ok, Err, Vec, codes}
use Rattle.std.specs.Global.{Global}
use Rattle.nomos_accept.specs.AcceptedText.{IsAcceptedAs, IsRefused}
use Rattle.nomos_accept.specs.declared.why.AcceptError.{AcceptError}
use Rattle.nomos_accept.specs.declared.why.AcceptError.TheVariants as error
use Rattle.nomos_answers.specs.DueLines.{no_entries, read_fault_line}
use Rattle.nomos_answers.specs.Outside.{HasText, HaveRisen, SourceState, input_of}
use Rattle.nomos_answers.specs.Sources.{IsPoolDueFor, IsPoolPartFor, kept_text}
use Rattle.nomos_answers.specs.Written.{HasWrittenOut}
use Rattle.nomos_answers.specs.declared.due.Due.{Due}
use Rattle.nomos_answers.specs.declared.pools.PoolDue.{PoolDue}
use Rattle.nomos_answers.specs.declared.pools.PoolPart.{PoolPart}
use Rattle.nomos_least.specs.LeastBounds.{IsLeastAs}
use Rattle.nomos_least.specs.declared.least.LeastBounds.{LeastBounds}
use Rattle.nomos_legal.specs.declared.journal.Journal.{Journal}
use Rattle.nomos_script.specs.declared.item.ScriptItem.{ScriptItem}
use Rattle.nomos_simplex.specs.declared.solved.Stop.{Stop}
use Rattle.nomos_top.specs.Seen.{Call, Texts}
use Rattle.nomos_top.specs.Outcome.{Inputs, Outcome, IsTaskDue, IsTaskPart, IsDue, IsPart, bare}
use Rattle.nomos_top.specs.Refusal.{refusal, unsolved_line}
use Rattle.nomos_top.specs.TaskRuns.{HasStopped, HasLeastStopped}
use Rattle.nomos_top.specs.declared.call_due.CallDue.{CallDue}
use Rattle.nomos_top.specs.declared.call_due.DoneSoFar.{DoneSoFar}
use Rattle.nomos_top.specs.declared.judging.Unaccepted.{Unaccepted}
use Rattle.nomos_top.specs.declared.judging.Unaccepted.TheVariants as unaccepted
use Rattle.nomos_types.specs.Acceptance.{Acceptance}
use Rattle.nomos_words.specs.Words.{Task}

-- ---- what is found of a contract

-- what stands against the acceptance of a text, where the solver may have stopped so, and where reading may have failed
abbrev pub IsAgainst : (Stop → Type 0) → Type 0 → List ℕ → Unaccepted → Type 0
IsAgainst Stops Fails text (unaccepted.Refused why) = IsRefused text why
IsAgainst Stops Fails text (unaccepted.Unsolved stop) = Stops stop
IsAgainst Stops Fails text unaccepted.ReadFault = Fails
IsAgainst Stops Fails text unaccepted.NoMemory = Unit {0}

-- the text of a contract, or why there is none
abbrev pub ReadsContract : SourceState → Result (Vec ℕ Global) Unaccepted → Type 0
ReadsContract source (Ok bytes) = HasText source.left bytes.items
ReadsContract source (Err u) =
    (text : List ℕ) × HasText source.left text × IsAgainst (λ stop. ⊥) (HaveRisen source.counts) text u

-- what is said of an error of the checker
abbrev pub unaccepted_of : AcceptError → Unaccepted
unaccepted_of (error.Refused why) = unaccepted.Refused why
unaccepted_of (error.Unsolved stop) = unaccepted.Unsolved stop
unaccepted_of error.NoMemory = unaccepted.NoMemory

-- what is found of a text
abbrev pub JudgesText : List ℕ → Result Acceptance Unaccepted → Type 0
JudgesText text (Ok a) = IsAcceptedAs text a
JudgesText text (Err u) = IsAgainst (HasStopped text) ⊥ text u

-- a text that the source has, where it tells that, and what is found of it
abbrev pub Judges : SourceState → Result Acceptance Unaccepted → Type 0
Judges source (Ok a) = (text : List ℕ) × HasText source.left text × IsAcceptedAs text a
Judges source (Err u) =
    (text : List ℕ) × HasText source.left text × IsAgainst (HasStopped text) (HaveRisen source.counts) text u

-- the same, where its least bounds are sought
abbrev pub JudgesLeast : SourceState → Result LeastBounds Unaccepted → Type 0
JudgesLeast source (Ok b) = (text : List ℕ) × HasText source.left text × IsLeastAs text b
JudgesLeast source (Err u) =
    (text : List ℕ) × HasText source.left text × IsAgainst (HasLeastStopped text) (HaveRisen source.counts) text u

-- ---- what is due

-- the outcome for which what is due stands
abbrev pub outcome_of : CallDue → Outcome
outcome_of d = record {
  status = d.due.status;
  out = d.due.out.items;
  kept = kept_text d.due;
  accepted = d.accepted;
  journal = d.due.journal;
  taken = d.taken;
}

-- what is due behind the acceptance of a program, with it
abbrev pub behind_of : Acceptance → Result Due Journal → Result CallDue DoneSoFar
behind_of a (Ok d) = Ok (record { accepted = Some a; due = d; taken = None })
behind_of a (Err j) = Err (record { accepted = Some a; journal = j; taken = None })

-- the same where threads submit, with what was taken
abbrev pub pooled_behind_of : Acceptance → Result PoolDue PoolPart → Result CallDue DoneSoFar
pooled_behind_of a (Ok p) = Ok (record { accepted = Some a; due = p.due; taken = p.taken })
pooled_behind_of a (Err p) = Err (record { accepted = Some a; journal = p.journal; taken = p.taken })

-- what is due where threads submit, behind the acceptance of a program
pub record IsPooledBehind (a : Acceptance) (threads : ℕ) (script : SourceState) (d : CallDue) : Type 0 where
  pub pool : PoolDue
  pub is : IsPoolDueFor a threads script pool
  pub due : d.due ≡ pool.due
  pub taken : d.taken ≡ pool.taken

-- what is known of it where memory was wanting
pub record IsPooledBehindPart (a : Acceptance) (threads : ℕ) (script : SourceState) (part : DoneSoFar) : Type 0 where
  pub pool : PoolPart
  pub is : IsPoolPartFor a threads script pool
  pub journal : part.journal ≡ pool.journal
  pub taken : part.taken ≡ pool.taken

-- nothing was done
pub record IsNothing (limit : ℕ) (part : DoneSoFar) : Type 0 where
  pub accepted : part.accepted ≡ None
  pub journal : part.journal ≡ no_entries limit
  pub taken : part.taken ≡ None

-- what is due of a contract that is not accepted
abbrev pub IsDueOut : ℕ → Unaccepted → CallDue → Type 0
IsDueOut limit (unaccepted.Refused why) d = outcome_of d ≡ bare 1 (refusal why) limit
IsDueOut limit (unaccepted.Unsolved stop) d = outcome_of d ≡ bare 8 (unsolved_line stop) limit
IsDueOut limit unaccepted.ReadFault d = outcome_of d ≡ bare 5 (read_fault_line (codes "contract")) limit
IsDueOut limit unaccepted.NoMemory d = ⊥

-- ---- for texts of sources

-- what is seen of the three sources
pub record Sources : Type 0 where
  pub contract : SourceState
  pub script : SourceState
  pub third : SourceState

abbrev pub inputs_on : Sources → Texts → Inputs
inputs_on s t = record {
  contract = input_of s.contract t.contract;
  script = input_of s.script t.script;
  third = input_of s.third t.third;
}

-- this holds on texts that the sources have left, where they tell that
pub record OnTexts (s : Sources) (Holds : Inputs → Type 0) : Type 0 where
  pub texts : Texts
  pub contract_told : HasText s.contract.left texts.contract
  pub script_told : HasText s.script.left texts.script
  pub third_told : HasText s.third.left texts.third
  pub holds : Holds (inputs_on s texts)

-- it is due for the task, or for the words
abbrev pub IsTaskDueOn : Sources → Task → CallDue → Type 0
IsTaskDueOn s task d = OnTexts s (λ i. IsTaskDue i task (outcome_of d))

abbrev pub IsDueOn : Sources → List (List ℕ) → CallDue → Type 0
IsDueOn s words d = OnTexts s (λ i. IsDue words i (outcome_of d))

-- this is what is known for the task, or for the words, where memory was wanting
abbrev pub IsTaskPartOn : Sources → Task → DoneSoFar → Type 0
IsTaskPartOn s task part = OnTexts s (λ i. IsTaskPart i task part.accepted part.journal part.taken)

abbrev pub IsPartOn : Sources → List (List ℕ) → DoneSoFar → Type 0
IsPartOn s words part = OnTexts s (λ i. IsPart words i part.accepted part.journal part.taken)

-- the program that is given with what is due, or with what is known where memory was wanting
abbrev pub given_of : Result CallDue DoneSoFar → Option Acceptance
given_of (Ok d) = d.accepted
given_of (Err part) = part.accepted

-- what was taken of the script, in the same way
abbrev pub taken_of : Result CallDue DoneSoFar → Option (List ScriptItem)
taken_of (Ok d) = d.taken
taken_of (Err part) = part.taken

-- ---- how a call ends

-- the call has written what is due, or a sink failed, and gives what is due
pub record EndsDue (c : Call) (d : CallDue) : Type 0 where
  pub written : HasWrittenOut d.due.status d.due.out.items (kept_text d.due) c.out c.journal_out c.status
  pub accepted : c.accepted ≡ d.accepted
  pub journal : c.journal ≡ d.due.journal
  pub taken : c.taken ≡ d.taken

-- the call has written nothing, and gives what was done
pub record EndsPart (c : Call) (part : DoneSoFar) : Type 0 where
  pub status : c.status ≡ 7
  pub out : c.out.after ≡ c.out.before
  pub journal_out : c.journal_out.after ≡ c.journal_out.before
  pub accepted : c.accepted ≡ part.accepted
  pub journal : c.journal ≡ part.journal
  pub taken : c.taken ≡ part.taken
