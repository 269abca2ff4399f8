-- What is told of a talk of an account of a ledger.
use Rattle.std.proofs.Common.{◌≡◌, ◌∙◌, ℕ, List, [], ◌∷◌, ◌++◌, Bool, Some, None, Result, Ok, Err, sym, subst, ap}
use Rattle.std.specs.Prelude.{IfOk, codes}
use Rattle.std.proofs.lemmas.List.{append-nil}
use Rattle.nomos_types.specs.Acceptance.{Acceptance}
use Rattle.nomos_legal.specs.Ledger.{LedgerState, account_of}
use Rattle.nomos_machine.specs.State.{State}
use Rattle.nomos_monitor.specs.TalkOpening.{IsTalkRefused}
use Rattle.nomos_monitor.specs.TalkCourse as course
use Rattle.nomos_monitor.specs.TalkCourse.{HoldsTalk}
use Rattle.nomos_monitor.specs.declared.talk_refusal.TalkRefusal.{TalkRefusal}
use Rattle.nomos_monitor.specs.declared.talk_refusal.TalkRefusal.TheVariants as refusal
use Rattle.nomos_script.specs.declared.talk_line.TalkLine.{TalkLine}
use Rattle.nomos_visit.specs.TalkHeld.{HasToldIn}
use Rattle.nomos_visit.specs.TalkText.{refused_text, talk_line_text, turns_of}
use Rattle.nomos_visit.specs.Visits as visits
use Rattle.nomos_visit.specs.Visits.{HoldsTalkIn}
use Rattle.nomos_visit.specs.mirror.Holding.{IsToldBehind, IsToldRefused}
use Rattle.nomos_visit.specs.declared.held.ToldTalk.{ToldTalk}

module _ (a : Acceptance) (proc : List ℕ) (limit : ℕ) (lines : List (ℕ × TalkLine)) (before : List ℕ) where
  -- the one line of a talk that is not opened
  one-line : {told : ToldTalk} (why : TalkRefusal) → IsToldRefused a why before told
      → told.text.items
      ≡ before ++ (talk_line_text (codes "refused " ++ refused_text a.annotations.unit why) ++ [])
  one-line why is =
      is.printed
      ∙ ap (λ (text : List ℕ). before ++ text)
      (sym (append-nil (talk_line_text (codes "refused " ++ refused_text a.annotations.unit why))))

  -- a talk that is not opened is told so
  pub refused-told : {E : Type 0} {s : State} {account : ℕ} (why : TalkRefusal) → IsTalkRefused a s proc account why
      → (r : Result ToldTalk E) → IfOk r (IsToldRefused a why before)
      → IfOk r (IsToldBehind a s proc account limit lines before)
  refused-told {s = s} {account = account} why refused (Ok told) is = record {
    replies = course.refused why ∷ [];
    course =
        subst (λ (b : Bool). HoldsTalk a s proc account limit (turns_of a.program lines) b (course.refused why ∷ []))
        (sym is.fine) (course.is_refused why refused);
    printed = one-line why is;
  }
  refused-told why refused (Err e) nothing = tt

  module _ (l : LedgerState) (name : List ℕ) where
    -- where no account has the name
    pub nobody-told : {E : Type 0} → account_of l.accounts name ≡ None → (r : Result ToldTalk E)
        → IfOk r (IsToldRefused a refusal.NoAccount before) → IfOk r (HasToldIn a l name proc limit lines before)
    nobody-told none (Ok told) is = record {
      replies = course.refused refusal.NoAccount ∷ [];
      course =
          subst (λ (b : Bool). HoldsTalkIn a l name proc limit (turns_of a.program lines) b
          (course.refused refusal.NoAccount ∷ [])) (sym is.fine) (visits.nobody none);
      printed = one-line refusal.NoAccount is;
    }
    nobody-told none (Err e) nothing = tt

    -- where an account has it, the talk is of that account
    pub account-told : {E : Type 0} {account : ℕ} → account_of l.accounts name ≡ Some account
        → (r : Result ToldTalk E) → IfOk r (IsToldBehind a l.state proc account limit lines before)
        → IfOk r (HasToldIn a l name proc limit lines before)
    account-told {account = account} some (Ok told) held = record {
      replies = held.replies;
      course = visits.holds account told.fine held.replies some held.course;
      printed = held.printed;
    }
    account-told some (Err e) nothing = tt
