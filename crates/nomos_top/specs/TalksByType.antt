-- What a party from outside says and hears is what the type of its channel allows, and nothing goes wrong meanwhile.
use Rattle.std.specs.Prelude.{◌≡◌, ℕ, ◌*◌, ◌++◌, Bool, List, Some}
use Rattle.nomos_deeds.specs.Firings.{HaveOneOwner}
use Rattle.nomos_answers.specs.TalkDue.{talk_status}
use Rattle.nomos_legal.specs.Ledger.{LedgerState, account_of}
use Rattle.nomos_machine.specs.OutsideTalk.{IsOutsideBy, TalksTo}
use Rattle.nomos_machine.specs.State.{State, gas_of}
use Rattle.nomos_machine.specs.Wrong.{Wrong}
use Rattle.nomos_monitor.specs.TalkOpening.{OpensNamed}
use Rattle.nomos_monitor.specs.TalkCourse.{TalkReply}
use Rattle.nomos_report.specs.Reported.{report_of}
use Rattle.nomos_script.specs.TalkReading.{ReadsAsTalk}
use Rattle.nomos_script.specs.declared.talk_line.TalkLine.{TalkLine}
use Rattle.nomos_top.specs.Kept.{CarriesOut}
use Rattle.nomos_top.specs.Seen.{Call, Texts, HasWritten, IsDone}
use Rattle.nomos_types.specs.Acceptance.{Acceptance}
use Rattle.nomos_visit.specs.TalkText.{turns_of}
use Rattle.nomos_visit.specs.Visits.{HoldsTalkIn, told_of_talk}
use Rattle.nomos_words.specs.Options.{usual_limit}
use Rattle.nomos_words.specs.Words.{talk, Asks}

-- Behind the report stands a line for each reply to the party: to what it says, to its listening, and of how the
-- firings of the lowest ready process came to rest. The status is that of the script where all is done that the party
-- does, and otherwise 3.
pub record IsTalkTold (c : Call) (t : Texts) (r : CarriesOut c t) (name proc : List ℕ) : Type 0 where
  pub lines : List (ℕ × TalkLine)
  pub reads : ReadsAsTalk t.third lines
  pub fine : Bool
  pub replies : List TalkReply
  pub holds : HoldsTalkIn r.a r.last name proc usual_limit (turns_of r.a.program lines) fine replies
  pub written : HasWritten c (report_of r.a r.passages ++ told_of_talk r.a lines replies)
  pub status : c.status ≡ talk_status fine c.journal.entries

-- A state to which a talk comes from the one in which it was opened is right. It is not wrong, and each linear channel
-- has one owner, but for the party's end. All gas is there that was deposited, and the party has an end until the last
-- one is heard.
pub record IsRightIn (a : Acceptance) (l : LedgerState) (s : State) (closed : Bool) (u : State) : Type 0 where
  pub not_wrong : ¬ (Wrong a u)
  pub owned : HaveOneOwner a u
  pub gas : gas_of u ≡ l.deposits * a.annotations.unit
  pub outside : IsOutsideBy closed s u

pub record TalksByType (c : Call) (t : Texts) : Type 0 where
  pub told : (r : CarriesOut c t) (file script name proc text : List ℕ)
      → Asks c.words (talk file script name proc text) → IsDone c.status → IsTalkTold c t r name proc
  -- whatever is said, heard and fired behind the opening, in any order, leads to a state that is right
  pub right : (r : CarriesOut c t) (file script name proc text : List ℕ)
      → Asks c.words (talk file script name proc text) → (account : ℕ) (s : State)
      → account_of r.last.accounts name ≡ Some account → OpensNamed r.a r.last.state proc account s
      → (closed : Bool) (u : State) → TalksTo r.a account closed s u → IsRightIn r.a r.last s closed u
