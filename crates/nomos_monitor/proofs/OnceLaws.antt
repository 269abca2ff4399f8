-- What the calls of a talk answer is determined by its state.
use Rattle.std.proofs.Common.{◌≡◌, ◌∙◌, ℕ, List, Option, Result, Ok, Err, IfOk, refl, sym, ap, arith}
use Rattle.nomos_ir.specs.declared.declaration.ProcDecl.{ProcDecl}
use Rattle.nomos_types.specs.Acceptance.{Acceptance, IsAccepted}
use Rattle.nomos_machine.specs.Opening.{IsOpenerNamed, opened_talk}
use Rattle.nomos_machine.specs.Hearing.{AnswersHearing}
use Rattle.nomos_machine.specs.Resting.{ComesToRest}
use Rattle.nomos_machine.specs.Saying.{Says}
use Rattle.nomos_machine.specs.State.{State}
use Rattle.nomos_machine.specs.declared.object.Heard.{Heard}
use Rattle.nomos_machine.specs.declared.object.Said.{Said}
use Rattle.nomos_machine.specs.declared.rest.Rest.{Rest}
use Rattle.nomos_machine.proofs.AwaitLaws.{may_say-once}
use Rattle.nomos_machine.proofs.HearingLaws.{hearing-once}
use Rattle.nomos_machine.proofs.OpeningLaws.{one-opener}
use Rattle.nomos_machine.proofs.RestLaws.{rest-once}
use Rattle.nomos_machine.proofs.SayingLaws.{says-once}
use Rattle.nomos_monitor.specs.SayAnswers.{AnswersSaying, IsSameSaying, IsUnsaid}
use Rattle.nomos_monitor.specs.TalkOpening.{OpensNamed}
use Rattle.nomos_monitor.specs.declared.talk_refusal.SayError.{SayError}
use Rattle.nomos_monitor.specs.declared.talk_refusal.SayError.TheVariants as error
use Rattle.nomos_monitor.specs.declared.rested.Rested.{Rested}

module _ (a : Acceptance) (s : State) (account : ℕ) (what : Said) where
  -- what may not be said, or not be paid, is not said
  pub unsaid-not_said : (why : SayError) (t : State) → IsUnsaid a s account what why → Says a s account what t → ⊥
  unsaid-not_said error.Protocol t none says = none says.gas (says.goes, says.may)
  unsaid-not_said (error.NoGas has needs) t ((goes, may), balance, less) says =
      let same = (may_say-once says.may may).0 in
      let enough = says.has.1 in
      omega (arith, same, enough, balance, less)
  unsaid-not_said error.NoMemory t none says = none

  -- and it is so for one reason
  pub unsaid-once : (why other : SayError) → IsUnsaid a s account what why → IsUnsaid a s account what other
      → why ≡ other
  unsaid-once error.Protocol error.Protocol none more = refl
  unsaid-once error.Protocol (error.NoGas has needs) none (may, balance, less) = absurd (none needs may)
  unsaid-once (error.NoGas has needs) error.Protocol (may, balance, less) none = absurd (none needs may)
  unsaid-once (error.NoGas has needs) (error.NoGas had need) ((goes, may), balance, less) ((onward, might), old, few) =
      ap (λ (n : ℕ). error.NoGas n needs) (balance ∙ sym old)
      ∙ ap (λ (n : ℕ). error.NoGas had n) (may_say-once may might).0
  unsaid-once error.NoMemory other none also = absurd none
  unsaid-once why error.NoMemory one none = absurd none

  -- so one answer is right
  pub saying-once : (other answer : Result Unit SayError) (t u : State) → AnswersSaying a s account what other t
      → AnswersSaying a s account what answer u → IsSameSaying other t answer u
  saying-once (Ok done) (Ok also) t u one two = (refl, says-once one two)
  saying-once (Ok done) (Err error.Protocol) t u one two = absurd (unsaid-not_said error.Protocol t two.0 one)
  saying-once (Ok done) (Err (error.NoGas has needs)) t u one two =
      absurd (unsaid-not_said (error.NoGas has needs) t two.0 one)
  saying-once (Ok done) (Err error.NoMemory) t u one two = tt
  saying-once (Err error.Protocol) (Ok done) t u one two = absurd (unsaid-not_said error.Protocol u one.0 two)
  saying-once (Err error.Protocol) (Err error.Protocol) t u one two = (refl, one.1 ∙ sym two.1)
  saying-once (Err error.Protocol) (Err (error.NoGas has needs)) t u one two =
      (ap Err (unsaid-once error.Protocol (error.NoGas has needs) one.0 two.0), one.1 ∙ sym two.1)
  saying-once (Err error.Protocol) (Err error.NoMemory) t u one two = tt
  saying-once (Err (error.NoGas has needs)) (Ok done) t u one two =
      absurd (unsaid-not_said (error.NoGas has needs) u one.0 two)
  saying-once (Err (error.NoGas has needs)) (Err error.Protocol) t u one two =
      (ap Err (unsaid-once (error.NoGas has needs) error.Protocol one.0 two.0), one.1 ∙ sym two.1)
  saying-once (Err (error.NoGas has needs)) (Err (error.NoGas had need)) t u one two =
      (ap Err (unsaid-once (error.NoGas has needs) (error.NoGas had need) one.0 two.0), one.1 ∙ sym two.1)
  saying-once (Err (error.NoGas has needs)) (Err error.NoMemory) t u one two = tt
  saying-once (Err error.NoMemory) answer t u one two = tt

-- a talk is opened in one way
pub opens-once : {a : Acceptance} → IsAccepted a → {s t u : State} {name : List ℕ} {account : ℕ}
    → OpensNamed a s name account t → OpensNamed a s name account u → t ≡ u
opens-once {a} accepted {s} {t} {u} {name} {account} one two =
    let first : IsOpenerNamed a name one.number one.opens.can.declaration =
    record { opener = one.opens.can.opener; named = one.named } in
    let second : IsOpenerNamed a name two.number two.opens.can.declaration =
    record { opener = two.opens.can.opener; named = two.named } in
    let same = (one-opener accepted name one.number two.number one.opens.can.declaration two.opens.can.declaration
    first second).1 in
    one.opens.after ∙ ap (λ (d : ProcDecl). opened_talk a s d account) same ∙ sym two.opens.after

-- the one answer to one who listens is right, unless memory was wanting
pub hearing-only : {E : Type 0} (s u : State) (account : ℕ) (other : Option Heard) (t : State)
    → AnswersHearing s account other t → (result : Result (Option Heard) E)
    → IfOk result (λ what. AnswersHearing s account what u) → IfOk result (λ what. (other ≡ what) × (t ≡ u))
hearing-only s u account other t one (Ok what) two = hearing-once s t u account other what one two
hearing-only s u account other t one (Err e) two = tt

-- and so is the one way in which firings come to rest
pub resting-once : {E : Type 0} {a : Acceptance} {limit : ℕ} {s : State} (u : State) (made : ℕ) (how : Rest) (t : State)
    → ComesToRest a limit s made how t → (result : Result Rested E)
    → IfOk result (λ r. ComesToRest a limit s r.made r.how u)
    → IfOk result (λ r. (made ≡ r.made) × (how ≡ r.how) × (t ≡ u))
resting-once {a = a} {limit = limit} u made how t one (Ok r) two = rest-once a limit one two
resting-once u made how t one (Err e) two = tt
