-- What is told of a talk that was held in a ledger, and for how many numbers there is room.
use Rattle.std.specs.Prelude.{◌≡◌, ℕ, ◌+◌, ◌-◌, ◌<◌, ◌^◌, List, ◌++◌}
use Rattle.nomos_types.specs.Acceptance.{Acceptance}
use Rattle.nomos_legal.specs.Ledger.{LedgerState}
use Rattle.nomos_machine.specs.State.{State}
use Rattle.nomos_monitor.specs.TalkCourse.{TalkReply}
use Rattle.nomos_script.specs.declared.talk_line.TalkLine.{TalkLine}
use Rattle.nomos_visit.specs.TalkText.{turns_of}
use Rattle.nomos_visit.specs.Visits.{HoldsTalkIn, told_of_talk}
use Rattle.nomos_visit.specs.declared.held.ToldTalk.{ToldTalk}

-- There is room for so many further numbers, of objects and of names.
pub record LeavesNumbers (s : State) (count : ℕ) : Type 0 where
  pub objects : s.next_object + count < 2 ^ 32 - 1
  pub names : s.next_name + count < 2 ^ 32 - 1

-- The talk was held, and its replies are printed behind what was printed before.
pub record HasToldIn (a : Acceptance) (l : LedgerState) (name proc : List ℕ) (limit : ℕ) (lines : List (ℕ × TalkLine))
    (before : List ℕ) (told : ToldTalk) : Type 0 where
  pub replies : List TalkReply
  pub course : HoldsTalkIn a l name proc limit (turns_of a.program lines) told.fine replies
  pub printed : told.text.items ≡ before ++ told_of_talk a lines replies
