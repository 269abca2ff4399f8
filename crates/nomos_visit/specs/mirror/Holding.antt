-- A mirror of the code that holds a talk line by line.
use Rattle.std.specs.Prelude.{◌≡◌, ℕ, ◌+◌, ◌-◌, Bool, true, false, List, ◌++◌, codes}
use Rattle.nomos_ir.specs.declared.lists.ProgramLists.{ProgramLists}
use Rattle.nomos_types.specs.Acceptance.{Acceptance}
use Rattle.nomos_machine.specs.Resting.{ComesToRest}
use Rattle.nomos_machine.specs.State.{State}
use Rattle.nomos_machine.specs.declared.rest.Rest.{Rest}
use Rattle.nomos_machine.specs.declared.rest.Rest.TheVariants as rest
use Rattle.nomos_monitor.specs.TalkCourse.{HoldsTalk, PartyTurn, TalkGoesOn, TalkReply}
use Rattle.nomos_monitor.specs.declared.talk_refusal.TalkRefusal.{TalkRefusal}
use Rattle.nomos_script.specs.declared.talk_line.TalkLine.{TalkLine}
use Rattle.nomos_visit.specs.TalkText.{refused_text, replies_text, stopped_text, talk_line_text, turns_of}
use Rattle.nomos_visit.specs.TalkHeld.{LeavesNumbers}
use Rattle.nomos_visit.specs.Visits.{numbers_of, told_of_talk}
use Rattle.nomos_visit.specs.declared.held.HeldTalk.{HeldTalk}
use Rattle.nomos_visit.specs.declared.held.ToldTalk.{ToldTalk}

-- What holds of a talk that is held, where so many lines are left. It is printed as one of its program, and there is a
-- number for each firing and for each line that is left.
pub record IsHeld {M : Type 0} (h : HeldTalk M) (lines : ℕ) : Type 0 where
  pub program : h.accepted.now ≡ h.talk.a
  pub room : LeavesNumbers h.talk.state (h.left + lines)

-- how firings came to rest is told, where a process was ready still; and whether the talk goes on
abbrev pub IsRestTold : Rest → Bool → List ℕ → List ℕ → Type 0
IsRestTold rest.Quiet more before after = (more ≡ true) × (after ≡ before)
IsRestTold how more before after = (more ≡ false) × (after ≡ before ++ talk_line_text (stopped_text how))

-- The lowest ready process was fired until the talk came to rest, with what was left of its firings.
pub record HasSettled {M : Type 0} (h : HeldTalk M) (more : Bool) (k : HeldTalk M) : Type 0 where
  pub made : ℕ
  pub how : Rest
  pub rests : ComesToRest h.talk.a h.left h.talk.state made how k.talk.state
  pub left : k.left ≡ h.left - made
  pub told : IsRestTold how more h.text.items k.text.items

-- Behind some turns of the party, to which these are the replies, the talk goes on from this state with so many firings
-- left; or it has ended.
abbrev pub ComesOn : Acceptance → ℕ → ℕ → State → List PartyTurn → List TalkReply → Bool → ℕ → State → Type 0
ComesOn a account left s turns replies true remain t = (more : List PartyTurn) (fine : Bool) (others : List TalkReply)
    → TalkGoesOn a account remain t more fine others
    → TalkGoesOn a account left s (turns ++ more) fine (replies ++ others)
ComesOn a account left s turns replies false remain t = (more : List PartyTurn)
    → TalkGoesOn a account left s (turns ++ more) false replies

-- replies to the lines of these numbers are printed behind what was printed before
abbrev pub ArePrinted : ProgramLists → ℕ → List ℕ → List TalkReply → List ℕ → List ℕ → Type 0
ArePrinted lists unit numbers replies before after = (behind : List ℕ) (others : List TalkReply)
    → before ++ replies_text lists unit (numbers ++ behind) (replies ++ others)
    ≡ after ++ replies_text lists unit behind others

-- what some turns came to, which the lines of these numbers say
pub record HasTaken {M : Type 0} (numbers : List ℕ) (turns : List PartyTurn) (h : HeldTalk M) (more : Bool)
    (k : HeldTalk M) : Type 0 where
  pub replies : List TalkReply
  pub comes : ComesOn h.talk.a h.talk.account h.left h.talk.state turns replies more k.left k.talk.state
  pub printed : ArePrinted h.talk.a.program h.talk.a.annotations.unit numbers replies h.text.items k.text.items
  pub program : k.talk.a ≡ h.talk.a
  pub account : k.talk.account ≡ h.talk.account

-- The whole talk was held, and its replies are printed behind what was printed before.
pub record HasHeld {M : Type 0} (lines : List (ℕ × TalkLine)) (h : HeldTalk M) (fine : Bool) (k : HeldTalk M) : Type 0
  where
    pub replies : List TalkReply
    pub course : TalkGoesOn h.talk.a h.talk.account h.left h.talk.state (turns_of h.talk.a.program lines) fine replies
    pub printed : k.text.items
        ≡ h.text.items ++ replies_text h.talk.a.program h.talk.a.annotations.unit (numbers_of lines) replies

-- what is told of a talk that is not opened, behind a text
pub record IsToldRefused (a : Acceptance) (why : TalkRefusal) (before : List ℕ) (told : ToldTalk) : Type 0 where
  pub fine : told.fine ≡ false
  pub printed : told.text.items ≡ before ++ talk_line_text (codes "refused " ++ refused_text a.annotations.unit why)

-- A talk from a state in which it is to be opened was held, and its replies are printed behind what was printed before.
pub record HasTold (a : Acceptance) (s : State) (proc : List ℕ) (account limit : ℕ) (lines : List (ℕ × TalkLine))
    (before : List ℕ) (fine : Bool) (after : List ℕ) : Type 0 where
  pub replies : List TalkReply
  pub course : HoldsTalk a s proc account limit (turns_of a.program lines) fine replies
  pub printed : after ≡ before ++ told_of_talk a lines replies

-- the same of what is told
abbrev pub IsToldBehind : Acceptance → State → List ℕ → ℕ → ℕ → List (ℕ × TalkLine) → List ℕ → ToldTalk → Type 0
IsToldBehind a s proc account limit lines before told =
    HasTold a s proc account limit lines before told.fine told.text.items
