-- Talks that are held in a ledger, and what is printed of them.
use Rattle.std.specs.Prelude.{◌≡◌, ℕ, Bool, false, List, [], ◌∷◌, map, Some, None}
use Rattle.nomos_types.specs.Acceptance.{Acceptance}
use Rattle.nomos_script.specs.declared.talk_line.TalkLine.{TalkLine}
use Rattle.nomos_legal.specs.Ledger.{LedgerState, account_of}
use Rattle.nomos_monitor.specs.TalkCourse.{HoldsTalk, PartyTurn, TalkReply, refused}
use Rattle.nomos_monitor.specs.declared.talk_refusal.TalkRefusal.TheVariants as refusal
use Rattle.nomos_visit.specs.TalkText.{replies_text}

-- The talk of the account of this name in a ledger, with so many firings in all: whether all is done that the party
-- does, and what is told it. Where no account has the name, none is opened.
pub data HoldsTalkIn (a : Acceptance) (l : LedgerState) (name proc : List ℕ) (limit : ℕ) (turns : List PartyTurn)
    : Bool → List TalkReply → Type 0 where
  nobody : account_of l.accounts name ≡ None
      → HoldsTalkIn a l name proc limit turns false (refused refusal.NoAccount ∷ [])
  holds : (account : ℕ) (fine : Bool) (replies : List TalkReply) → account_of l.accounts name ≡ Some account
      → HoldsTalk a l.state proc account limit turns fine replies
      → HoldsTalkIn a l name proc limit turns fine replies

-- the numbers of lines
abbrev pub numbers_of : List (ℕ × TalkLine) → List ℕ
numbers_of lines = map (λ l. l.0) lines

-- what is printed of a talk whose text has these lines, where these are the replies
abbrev pub told_of_talk : Acceptance → List (ℕ × TalkLine) → List TalkReply → List ℕ
told_of_talk a lines replies = replies_text a.program a.annotations.unit (numbers_of lines) replies
