-- All that is claimed of a call of `nomos-carry`.
use Rattle.std.specs.Prelude.{◌≡◌, ◌≢◌, ◌⊎◌, ℕ, List, Option, Ok}
use Rattle.nomos_accept.specs.AcceptedText.{IsAcceptedAs}
use Rattle.nomos_accept.specs.TypedText.{IsTypedAs}
use Rattle.nomos_base.specs.Sink.{with_end}
use Rattle.nomos_answers.specs.Written.{with_text}
use Rattle.nomos_legal.specs.Ledger.{LedgerState}
use Rattle.nomos_legal.specs.Passage.{Passage}
use Rattle.nomos_legal.specs.declared.journal.Journal.{Journal}
use Rattle.nomos_report.specs.Reported.{report_of, run_status}
use Rattle.nomos_snapshot.specs.Loading.{Loads}
use Rattle.nomos_snapshot.specs.Text.{snapshot_text}
use Rattle.nomos_top.specs.Headline.{GoesRightTo}
use Rattle.nomos_top.specs.Seen.{IsDone}
use Rattle.nomos_types.specs.Acceptance.{Acceptance}
use Rattle.nomos_carry.specs.CarryCall.{CarryCall, CarryEndsOn, CarryTexts, carry_inputs, snapshot_if}
use Rattle.nomos_carrying.specs.CarryDue.{HasCarried, TellsNumbers}
use Rattle.nomos_carry.specs.CarryWords.{AsksToCarry, CarryTask, carry, numbers, renumber}
use Rattle.nomos_carrying.specs.Renumbered.{IsRenumbered}

-- ---- words for what is said of a call

-- the output has got exactly this
abbrev pub HasPrinted : CarryCall → List ℕ → Type 0
HasPrinted c bytes = c.out.after ≡ with_end c.out.before bytes

-- the file of the next snapshot has got exactly this text
abbrev pub HasSaved : CarryCall → List ℕ → Type 0
HasSaved c text = c.new.after ≡ with_end c.new.before text

-- the words ask that a ledger is carried on
abbrev pub AsksForCarry : CarryCall → Option (List ℕ) → Type 0
AsksForCarry c snapshot = (file script new : List ℕ) × AsksToCarry c.words (carry file snapshot script new)

-- the words ask that a ledger is renumbered
abbrev pub AsksForRenumbering : CarryCall → Type 0
AsksForRenumbering c = (file snapshot new : List ℕ) × AsksToCarry c.words (renumber file snapshot new)

-- the words ask for the next numbers of a ledger
abbrev pub AsksForNumbers : CarryCall → Type 0
AsksForNumbers c = (file snapshot : List ℕ) × AsksToCarry c.words (numbers file snapshot)

-- reading, writing or memory failed
abbrev pub CarryFails : CarryCall → Type 0
CarryFails c = (c.status ≡ 5) ⊎ ((c.status ≡ 6) ⊎ (c.status ≡ 7))

-- ---- the ledger that is carried on

-- What a call did that carried a ledger on. The contract reads as a typed program. The run of the script is legal and
-- goes right, from the ledger of the snapshot to the last one, and the report tells it. What is saved is the last
-- ledger's text, and loaded as that ledger.
pub record CarriesOn (c : CarryCall) (t : CarryTexts) (snapshot : Option (List ℕ)) : Type 0 where
  pub a : Acceptance
  pub accepted : IsAcceptedAs t.contract a
  pub typed : IsTypedAs t.contract a.program a.annotations
  pub journal : Journal
  pub passages : List Passage
  pub last : LedgerState
  pub carried : HasCarried a (snapshot_if snapshot (carry_inputs c t).snapshot) (carry_inputs c t).script journal
      passages last
  pub right : GoesRightTo a carried.first passages last
  pub status : c.status ≡ run_status journal.entries
  pub printed : HasPrinted c (report_of a passages)
  pub saved : HasSaved c (snapshot_text a last)
  pub loads : Loads a (snapshot_text a last) (Ok last)

-- What a call did that renumbered a ledger: what is saved is the text of the one ledger to which that of the snapshot
-- is renumbered, and loaded as that ledger.
pub record Renumbers (c : CarryCall) (t : CarryTexts) : Type 0 where
  pub a : Acceptance
  pub accepted : IsAcceptedAs t.contract a
  pub before : LedgerState
  pub after : LedgerState
  pub loads_before : Loads a t.snapshot (Ok before)
  pub renumbered : IsRenumbered before after
  pub only : (m : LedgerState) → IsRenumbered before m → m ≡ after
  pub saved : HasSaved c (snapshot_text a after)
  pub loads : Loads a (snapshot_text a after) (Ok after)

-- What a call did that told next numbers: they are those of the ledger of the snapshot.
pub record TellsNext (c : CarryCall) (t : CarryTexts) : Type 0 where
  pub a : Acceptance
  pub accepted : IsAcceptedAs t.contract a
  pub ledger : LedgerState
  pub loads : Loads a t.snapshot (Ok ledger)
  pub told : List ℕ
  pub tells : TellsNumbers ledger.state.next_object ledger.state.next_name told
  pub printed : HasPrinted c told

-- ---- one answer

-- both calls end alike: with one status, one output and one next snapshot
pub record EndsAlike (c d : CarryCall) : Type 0 where
  pub status : c.status ≡ d.status
  pub out : (bytes : List ℕ) × HasPrinted c bytes × HasPrinted d bytes
  pub next : (text : Option (List ℕ)) × (c.new.after ≡ with_text c.new.before text)
      × (d.new.after ≡ with_text d.new.before text)

pub record CarryClaims (c : CarryCall) : Type 0 where
  -- its words ask for one task at most
  pub one_task : (s t : CarryTask) → AsksToCarry c.words s → AsksToCarry c.words t → s ≡ t
  pub texts : CarryTexts
  -- how it ends: each status, with what is written
  pub ends : CarryEndsOn c texts
  -- what it does where it is done
  pub carries_on : (snapshot : Option (List ℕ)) → AsksForCarry c snapshot → IsDone c.status → CarriesOn c texts snapshot
  pub renumbers : AsksForRenumbering c → c.status ≡ 0 → Renumbers c texts
  pub tells : AsksForNumbers c → c.status ≡ 0 → TellsNext c texts
  -- a next snapshot is written with 0 and 3 alone, and with 6 a front of it, if anything
  pub leaves_new : ¬ (IsDone c.status) → c.status ≢ 6 → c.new.after ≡ c.new.before
  -- Determined: each other call of these words on these texts ends alike, unless reading, writing or memory fails in
  -- one of the two. So from one contract, one snapshot and one script there is one report and one next snapshot.
  pub determined : (d : CarryCall) → CarryEndsOn d texts → d.words ≡ c.words
      → EndsAlike c d ⊎ (CarryFails c ⊎ CarryFails d)
