-- Talks go by the type of their channel, and nothing goes wrong meanwhile.
use Rattle.std.proofs.Common.{◌≡◌, ◌∙◌, ◌⊎◌, inl, inr, ℕ, ◌<◌, ◌^◌, ◌++◌, Bool, List, Option, ap, subst, arith}
use Rattle.nomos_deeds.proofs.FireLaws.{typed-owners}
use Rattle.nomos_legal.proofs.SettledLaws.{settled-gas}
use Rattle.nomos_legal.specs.Ledger.{LedgerState}
use Rattle.nomos_legal.specs.Passage.{Passage}
use Rattle.nomos_machine.proofs.OutsideTalkLaws.{opens-party}
use Rattle.nomos_machine.specs.OutsideTalk.{TalksTo}
use Rattle.nomos_machine.specs.State.{State, gas_of}
use Rattle.nomos_monitor.proofs.KeepingLaws.{goes-well}
use Rattle.nomos_monitor.proofs.OpenedLaws.{named-talk}
use Rattle.nomos_monitor.specs.TalkOpening.{OpensNamed}
use Rattle.nomos_report.specs.Reported.{report_of}
use Rattle.nomos_top.proofs.AcceptedLaws.{task-view}
use Rattle.nomos_top.proofs.EndLaws.{whole-done}
use Rattle.nomos_top.proofs.KeptLaws.{done-carried, kept-goes_right, seen-as}
use Rattle.nomos_top.proofs.Views.{Carried, TalkSeen, end-view}
use Rattle.nomos_top.specs.Call.{EndsOn, inputs_of, outcome_with}
use Rattle.nomos_top.specs.Kept.{CarriesOut}
use Rattle.nomos_top.specs.Seen.{Call, Texts, Gives, HasWritten, IsDone}
use Rattle.nomos_top.specs.TalksByType.{IsRightIn, IsTalkTold, TalksByType}
use Rattle.nomos_top.specs.Tasks.{IsAlone}
use Rattle.nomos_types.specs.Acceptance.{Acceptance}
use Rattle.nomos_visit.specs.TalkText.{turns_of}
use Rattle.nomos_visit.specs.Visits.{HoldsTalkIn, told_of_talk}
use Rattle.nomos_words.specs.Options.{usual_limit}
use Rattle.nomos_words.specs.Words.{talk, Asks}

-- ---- what is told

-- what is seen of a talk is what is told of the run that is seen
seen-told : (c : Call) (t : Texts) (r : CarriesOut c t) (name proc out : List ℕ) (kept : Option (List ℕ))
    (a : Acceptance) (ps : List Passage) (last : LedgerState) → a ≡ r.a → ps ≡ r.passages → last ≡ r.last
    → HasWritten c out → TalkSeen (inputs_of c t) (outcome_with c c.status out kept) a ps last name proc
    → IsTalkTold c t r name proc
seen-told c t r name proc out kept a ps last programs passages lasts wrote seen = record {
  lines = seen.lines;
  reads = seen.reads;
  fine = seen.fine;
  replies = seen.replies;
  holds =
      subst
      (λ (l : LedgerState). HoldsTalkIn r.a l name proc usual_limit (turns_of r.a.program seen.lines) seen.fine
      seen.replies) lasts
      (subst
      (λ (x : Acceptance). HoldsTalkIn x last name proc usual_limit (turns_of x.program seen.lines) seen.fine
      seen.replies) programs seen.holds);
  written =
      subst (HasWritten c)
      (seen.out
      ∙ ap (λ (x : Acceptance). report_of x ps ++ told_of_talk x seen.lines seen.replies) programs
      ∙ ap (λ (qs : List Passage). report_of r.a qs ++ told_of_talk r.a seen.lines seen.replies) passages) wrote;
  status = seen.status;
}

talk-told : (c : Call) (t : Texts) → EndsOn c t → (r : CarriesOut c t) (file script name proc text : List ℕ)
    → Asks c.words (talk file script name proc text) → IsDone c.status → IsTalkTold c t r name proc
talk-told c t e r file script name proc text asks done =
    let w = whole-done c t (end-view c t e) done in
    let task = talk file script name proc text in
    either w.out w.kept w.wrote (done-carried c t w.out w.kept task done (task-view w.view task asks))
  where
    either : (out : List ℕ) (kept : Option (List ℕ)) → HasWritten c out → IsAlone (talk file script name proc text)
        ⊎ ((a : Acceptance) × Gives c a
        × Carried (inputs_of c t) (talk file script name proc text) (outcome_with c c.status out kept) a)
        → IsTalkTold c t r name proc
    either out kept wrote (inl alone) = absurd alone
    either out kept wrote (inr (a, gives, run)) =
        let seen = seen-as c t (talk file script name proc text) c.status out kept a (e.fits a gives) gives asks run
        r in
        seen-told c t r name proc out kept a run.passages run.last seen.programs seen.passages seen.last wrote run.talks

-- ---- nothing goes wrong

talk-right : (c : Call) (t : Texts) → EndsOn c t → (r : CarriesOut c t) (name proc : List ℕ) (account : ℕ) (s : State)
    → OpensNamed r.a r.last.state proc account s → (closed : Bool) (u : State) → TalksTo r.a account closed s u
    → IsRightIn r.a r.last s closed u
talk-right c t e r name proc account s opens closed u talks =
    let accepted = e.fits r.a r.gives in
    let right = (kept-goes_right c t e).right r.task r.a r.first r.items r.passages r.last r.asks r.gives r.begins
    r.tells in
    let settled = right.stands.settled in
    let low = settled-gas accepted settled in
    let few : gas_of r.last.state < 2 ^ 96 = omega (arith, low) in
    let opened = opens-party accepted settled.typed opens.number opens.opens in
    let went = goes-well accepted (named-talk accepted settled.typed few opens) closed u talks in
    record {
      not_wrong = went.right;
      owned = typed-owners r.a accepted u went.talk.party.typed;
      gas = went.gas ∙ opened.gas ∙ settled.gas;
      outside = went.ends;
    }

pub talks-by_type : (c : Call) (t : Texts) → EndsOn c t → TalksByType c t
talks-by_type c t e = record {
  told = λ r file script name proc text asks done. talk-told c t e r file script name proc text asks done;
  right = λ r file script name proc text asks account s its opens closed u talks.
      talk-right c t e r name proc account s opens closed u talks;
}
