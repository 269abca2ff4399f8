-- The course of a whole talk: what a party does, one thing after the other, and what is told it of that.
use Rattle.std.specs.Prelude.{ℕ, ◌-◌, List, [], ◌∷◌, Bool, true, false, Option}
use Rattle.nomos_types.specs.Acceptance.{Acceptance}
use Rattle.nomos_machine.specs.Hearing.{AnswersHearing}
use Rattle.nomos_machine.specs.Resting.{ComesToRest}
use Rattle.nomos_machine.specs.Saying.{Says}
use Rattle.nomos_machine.specs.State.{State}
use Rattle.nomos_machine.specs.declared.object.Heard.{Heard}
use Rattle.nomos_machine.specs.declared.object.Said.{Said}
use Rattle.nomos_machine.specs.declared.rest.Rest.{Rest}
use Rattle.nomos_machine.specs.declared.rest.Rest.TheVariants as rest
use Rattle.nomos_monitor.specs.SayAnswers.{IsUnsaid}
use Rattle.nomos_monitor.specs.TalkOpening.{IsTalkRefused, OpensNamed}
use Rattle.nomos_monitor.specs.declared.talk_refusal.SayError.{SayError}
use Rattle.nomos_monitor.specs.declared.talk_refusal.TalkRefusal.{TalkRefusal}

-- what a party does: it says this, or it listens
pub data PartyTurn : Type 0 where
  speaks : Said → PartyTurn
  listens : PartyTurn

-- what is told it: that the talk was opened, or why not; that something was said, or why not; what was heard; and how
-- firings came to rest where a process was ready still
pub data TalkReply : Type 0 where
  opened : TalkReply
  refused : TalkRefusal → TalkReply
  said : TalkReply
  unsaid : SayError → TalkReply
  heard : Option Heard → TalkReply
  stopped : Rest → TalkReply

-- a process was ready still
abbrev pub IsStopped : Rest → Type 0
IsStopped rest.Quiet = ⊥
IsStopped _ = Unit {0}

-- The talk of an account from a state in which no process is ready, with so many firings left: whether all is done that
-- the party does, and what is told. Behind each saying the lowest ready process fires until none is ready.
pub data TalkGoesOn (a : Acceptance) (account : ℕ) : ℕ → State → List PartyTurn → Bool → List TalkReply → Type 0 where
  done : (left : ℕ) (s : State) → TalkGoesOn a account left s [] true []
  hears : (left : ℕ) (s t : State) (what : Option Heard) (turns : List PartyTurn) (fine : Bool)
      (replies : List TalkReply) → AnswersHearing s account what t
      → TalkGoesOn a account left t turns fine replies
      → TalkGoesOn a account left s (listens ∷ turns) fine (heard what ∷ replies)
  says : (left made : ℕ) (s t u : State) (what : Said) (turns : List PartyTurn) (fine : Bool)
      (replies : List TalkReply) → Says a s account what t → ComesToRest a left t made rest.Quiet u
      → TalkGoesOn a account (left - made) u turns fine replies
      → TalkGoesOn a account left s (speaks what ∷ turns) fine (said ∷ replies)
  stops : (left made : ℕ) (s t u : State) (what : Said) (how : Rest) (turns : List PartyTurn)
      → Says a s account what t → ComesToRest a left t made how u → IsStopped how
      → TalkGoesOn a account left s (speaks what ∷ turns) false (said ∷ stopped how ∷ [])
  leaves : (left : ℕ) (s : State) (what : Said) (why : SayError) (turns : List PartyTurn)
      → IsUnsaid a s account what why → TalkGoesOn a account left s (speaks what ∷ turns) false (unsaid why ∷ [])

-- The same of a talk that is opened by the name of a declaration, with so many firings in all.
pub data HoldsTalk (a : Acceptance) (s : State) (name : List ℕ) (account limit : ℕ) (turns : List PartyTurn)
    : Bool → List TalkReply → Type 0 where
  is_refused : (why : TalkRefusal) → IsTalkRefused a s name account why
      → HoldsTalk a s name account limit turns false (refused why ∷ [])
  goes_on : (made : ℕ) (t u : State) (fine : Bool) (replies : List TalkReply) → OpensNamed a s name account t
      → ComesToRest a limit t made rest.Quiet u → TalkGoesOn a account (limit - made) u turns fine replies
      → HoldsTalk a s name account limit turns fine (opened ∷ replies)
  is_stopped : (made : ℕ) (t u : State) (how : Rest) → OpensNamed a s name account t
      → ComesToRest a limit t made how u → IsStopped how
      → HoldsTalk a s name account limit turns false (opened ∷ stopped how ∷ [])
