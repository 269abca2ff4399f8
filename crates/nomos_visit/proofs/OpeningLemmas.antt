-- What a talk comes to behind its opening.
use Rattle.std.proofs.Common.{◌≡◌, ◌≢◌, ◌∙◌, ℕ, ◌-◌, List, [], ◌∷◌, ◌++◌, Bool, true, false, Result, Ok, Err, refl, sym, subst, ap}
use Rattle.std.specs.Prelude.{IfOk, codes}
use Rattle.std.proofs.lemmas.Bool.{false≢true}
use Rattle.nomos_types.specs.Acceptance.{Acceptance}
use Rattle.nomos_machine.specs.Resting.{ComesToRest}
use Rattle.nomos_machine.specs.State.{State}
use Rattle.nomos_machine.specs.declared.rest.Rest.{Rest}
use Rattle.nomos_machine.specs.declared.rest.Rest.TheVariants as rest
use Rattle.nomos_monitor.specs.TalkOpening.{OpensNamed}
use Rattle.nomos_monitor.specs.Talks.{TalkState}
use Rattle.nomos_monitor.specs.TalkCourse as course
use Rattle.nomos_monitor.specs.TalkCourse.{IsStopped, TalkGoesOn, TalkReply}
use Rattle.nomos_script.specs.declared.talk_line.TalkLine.{TalkLine}
use Rattle.nomos_visit.specs.TalkText.{replies_text, stopped_text, talk_line_text, turns_of}
use Rattle.nomos_visit.specs.Visits.{numbers_of}
use Rattle.nomos_visit.specs.mirror.Holding.{HasHeld, HasSettled, HasTold, IsRestTold}
use Rattle.nomos_visit.specs.declared.held.HeldTalk.{HeldTalk}
use Rattle.nomos_visit.proofs.CourseLemmas.{printed-all, printed-more}
use Rattle.nomos_visit.proofs.TurnLemmas.{printed-other}

-- it is told how firings came to rest where a process was ready still
pub stopped-told : (how : Rest) (before after : List ℕ) → how ≢ rest.Quiet
    → after ≡ before ++ talk_line_text (stopped_text how) → IsRestTold how false before after
stopped-told rest.Quiet before after other printed = absurd (other refl)
stopped-told (rest.Faulted pid f) before after other printed = (refl, printed)
stopped-told rest.Steps before after other printed = (refl, printed)

-- A talk that was opened: what is told so, and how it came to rest.
module _ {M : Type 0} {s : State} {proc : List ℕ} (lines : List (ℕ × TalkLine)) (h k m : HeldTalk M)
    (opens : OpensNamed h.talk.a s proc h.talk.account h.talk.state) (same : k.talk ≡ h.talk) (left : k.left ≡ h.left)
    (printed : k.text.items ≡ h.text.items ++ talk_line_text (codes "opened")) where
  own-rest : {made : ℕ} {how : Rest} → ComesToRest k.talk.a k.left k.talk.state made how m.talk.state
      → ComesToRest h.talk.a h.left h.talk.state made how m.talk.state
  own-rest {made} {how} rests =
      subst (λ (n : ℕ). ComesToRest h.talk.a n h.talk.state made how m.talk.state) left
      (subst (λ (t : TalkState). ComesToRest t.a k.left t.state made how m.talk.state) same rests)

  told-stopped : {made : ℕ} (how : Rest) → IsStopped how
      → ComesToRest k.talk.a k.left k.talk.state made how m.talk.state
      → m.text.items ≡ k.text.items ++ talk_line_text (stopped_text how)
      → HasTold h.talk.a s proc h.talk.account h.left lines h.text.items false m.text.items
  told-stopped {made} how is rests told = record {
    replies = course.opened ∷ course.stopped how ∷ [];
    course = course.is_stopped made h.talk.state m.talk.state how opens (own-rest rests) is;
    printed =
        printed-all h.talk.a.program h.talk.a.annotations.unit [] (numbers_of lines)
        (course.opened ∷ course.stopped how ∷ []) h.text.items m.text.items
        (printed-more h.talk.a.program h.talk.a.annotations.unit [] [] (course.opened ∷ []) (course.stopped how ∷ [])
        h.text.items k.text.items m.text.items
        (printed-other h.talk.a.program h.talk.a.annotations.unit course.opened h.text.items k.text.items refl printed)
        (printed-other h.talk.a.program h.talk.a.annotations.unit (course.stopped how) k.text.items m.text.items refl
        told));
  }

  -- the talk has ended, since a process is ready still
  pub opened-stopped : HasSettled k false m
      → HasTold h.talk.a s proc h.talk.account h.left lines h.text.items false m.text.items
  opened-stopped settled = go settled.how settled.rests settled.told
    where
      go : (how : Rest) → ComesToRest k.talk.a k.left k.talk.state settled.made how m.talk.state
          → IsRestTold how false k.text.items m.text.items
          → HasTold h.talk.a s proc h.talk.account h.left lines h.text.items false m.text.items
      go rest.Quiet rests told = absurd (false≢true told.0)
      go (rest.Faulted pid f) rests told = told-stopped (rest.Faulted pid f) tt rests told.1
      go rest.Steps rests told = told-stopped rest.Steps tt rests told.1

  module _ (n : HeldTalk M) (fine : Bool) (program : m.talk.a ≡ k.talk.a) (account : m.talk.account ≡ k.talk.account)
      (held : HasHeld lines m fine n) where
    told-quiet : {made : ℕ} → ComesToRest k.talk.a k.left k.talk.state made rest.Quiet m.talk.state
        → m.left ≡ k.left - made → m.text.items ≡ k.text.items
        → HasTold h.talk.a s proc h.talk.account h.left lines h.text.items fine n.text.items
    told-quiet {made} rests remain told =
        let same_program : m.talk.a ≡ h.talk.a = program ∙ ap (λ (t : TalkState). t.a) same in
        let same_account : m.talk.account ≡ h.talk.account = account ∙ ap (λ (t : TalkState). t.account) same in
        let same_left : m.left ≡ h.left - made = remain ∙ ap (λ (x : ℕ). x - made) left in
        let goes = subst (λ (x : ℕ). TalkGoesOn h.talk.a h.talk.account x m.talk.state
        (turns_of h.talk.a.program lines) fine held.replies) same_left
        (subst (λ (x : ℕ). TalkGoesOn h.talk.a x m.left m.talk.state (turns_of h.talk.a.program lines) fine
        held.replies) same_account
        (subst (λ (x : Acceptance). TalkGoesOn x m.talk.account m.left m.talk.state (turns_of x.program lines) fine
        held.replies) same_program held.course)) in
        let further = subst (λ (x : Acceptance). n.text.items
        ≡ m.text.items ++ replies_text x.program x.annotations.unit (numbers_of lines) held.replies) same_program
        held.printed in
        record {
          replies = course.opened ∷ held.replies;
          course = course.goes_on made h.talk.state m.talk.state fine held.replies opens (own-rest rests) goes;
          printed =
              further
              ∙ ap (λ (text : List ℕ). text ++ replies_text h.talk.a.program h.talk.a.annotations.unit
              (numbers_of lines) held.replies) told
              ∙ sym (printed-other h.talk.a.program h.talk.a.annotations.unit course.opened h.text.items k.text.items
              refl printed (numbers_of lines) held.replies);
        }

    -- the talk goes on from there
    pub opened-held : HasSettled k true m
        → HasTold h.talk.a s proc h.talk.account h.left lines h.text.items fine n.text.items
    opened-held settled = go settled.how settled.rests settled.told
      where
        go : (how : Rest) → ComesToRest k.talk.a k.left k.talk.state settled.made how m.talk.state
            → IsRestTold how true k.text.items m.text.items
            → HasTold h.talk.a s proc h.talk.account h.left lines h.text.items fine n.text.items
        go rest.Quiet rests told = told-quiet rests settled.left told.1
        go (rest.Faulted pid f) rests told = absurd (false≢true (sym told.0))
        go rest.Steps rests told = absurd (false≢true (sym told.0))

  -- the same of what is answered
  pub opened-told : {E : Type 0} (n : HeldTalk M) (r : Result Bool E) → m.talk.a ≡ k.talk.a
      → m.talk.account ≡ k.talk.account → HasSettled k true m → IfOk r (λ fine. HasHeld lines m fine n)
      → IfOk r (λ fine. HasTold h.talk.a s proc h.talk.account h.left lines h.text.items fine n.text.items)
  opened-told n (Ok fine) program account settled held = opened-held n fine program account held settled
  opened-told n (Err e) program account settled nothing = tt
