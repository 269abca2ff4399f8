-- What one turn of the party comes to, and what is printed of it.
use Rattle.std.proofs.Common.{◌≡◌, ◌≢◌, ◌∙◌, ℕ, ◌-◌, List, [], ◌∷◌, ◌++◌, Bool, true, false, Option, Result, Ok, Err, refl, sym, subst, ap, append_assoc}
use Rattle.std.specs.Prelude.{IfOk, OnOk, codes, decimal}
use Rattle.nomos_ir.specs.declared.lists.ProgramLists.{ProgramLists}
use Rattle.nomos_types.specs.Acceptance.{Acceptance}
use Rattle.nomos_machine.specs.Hearing.{AnswersHearing}
use Rattle.nomos_machine.specs.Resting.{ComesToRest}
use Rattle.nomos_machine.specs.Saying.{Says}
use Rattle.nomos_machine.specs.State.{State}
use Rattle.nomos_machine.specs.declared.object.Heard.{Heard}
use Rattle.nomos_machine.specs.declared.object.Said.{Said}
use Rattle.nomos_machine.specs.declared.rest.Rest.{Rest}
use Rattle.nomos_machine.specs.declared.rest.Rest.TheVariants as rest
use Rattle.nomos_monitor.specs.SayAnswers.{AnswersSaying, IsUnsaid}
use Rattle.nomos_monitor.specs.TalkCourse as course
use Rattle.nomos_monitor.specs.TalkCourse.{IsStopped, TalkGoesOn, TalkReply, speaks, listens}
use Rattle.nomos_monitor.specs.declared.talk_refusal.SayError.{SayError}
use Rattle.nomos_monitor.specs.declared.talk_refusal.SayError.TheVariants as error
use Rattle.nomos_visit.specs.TalkText.{heard_text, is_to_line, replies_text, reply_text, stopped_text, talk_line_text, unsaid_text}
use Rattle.nomos_visit.specs.mirror.Holding.{ArePrinted, ComesOn, HasSettled, HasTaken, IsRestTold}
use Rattle.nomos_visit.specs.declared.held.HeldTalk.{HeldTalk}
use Rattle.nomos_visit.proofs.CourseLemmas.{printed-more}

-- ---- the course

module _ (a : Acceptance) (account left : ℕ) (s : State) where
  -- something is said, and the talk comes to rest
  pub says-comes : {made remain : ℕ} {t u : State} (what : Said) → Says a s account what t
      → ComesToRest a left t made rest.Quiet u → remain ≡ left - made
      → ComesOn a account left s (speaks what ∷ []) (course.said ∷ []) true remain u
  says-comes {made} {remain} {t} {u} what says rests is = λ more fine others goes.
      course.says left made s t u what more fine others says rests
      (subst (λ (n : ℕ). TalkGoesOn a account n u more fine others) is goes)

  -- or a process is ready still
  pub stops-comes : {made : ℕ} {t u : State} (remain : ℕ) (what : Said) (how : Rest) → Says a s account what t
      → ComesToRest a left t made how u → IsStopped how
      → ComesOn a account left s (speaks what ∷ []) (course.said ∷ course.stopped how ∷ []) false remain u
  stops-comes {made} {t} {u} remain what how says rests is = λ more.
      course.stops left made s t u what how more says rests is

  -- or it is not said
  pub leaves-comes : (remain : ℕ) (u : State) (what : Said) (why : SayError) → IsUnsaid a s account what why
      → ComesOn a account left s (speaks what ∷ []) (course.unsaid why ∷ []) false remain u
  leaves-comes remain u what why unsaid = λ more. course.leaves left s what why more unsaid

  -- the party listens
  pub hears-comes : {t : State} (what : Option Heard) → AnswersHearing s account what t
      → ComesOn a account left s (listens ∷ []) (course.heard what ∷ []) true left t
  hears-comes {t} what answers = λ more fine others goes. course.hears left s t what more fine others answers goes

-- ---- what is printed

module _ (lists : ProgramLists) (unit : ℕ) (reply : TalkReply) (before after : List ℕ) where
  -- a reply to what a line says
  pub printed-line : (number : ℕ) → is_to_line reply ≡ true
      → after ≡ before ++ talk_line_text (decimal number ++ codes " " ++ reply_text lists unit reply)
      → ArePrinted lists unit (number ∷ []) (reply ∷ []) before after
  printed-line number is printed = λ behind others.
      rw is
      (sym (append_assoc before (talk_line_text (decimal number ++ codes " " ++ reply_text lists unit reply))
      (replies_text lists unit behind others))
      ∙ ap (λ (text : List ℕ). text ++ replies_text lists unit behind others) (sym printed))

  -- any other reply
  pub printed-other : is_to_line reply ≡ false → after ≡ before ++ talk_line_text (reply_text lists unit reply)
      → ArePrinted lists unit [] (reply ∷ []) before after
  printed-other is printed = λ behind others.
      rw is
      (sym (append_assoc before (talk_line_text (reply_text lists unit reply)) (replies_text lists unit behind others))
      ∙ ap (λ (text : List ℕ). text ++ replies_text lists unit behind others) (sym printed))

-- ---- a saying

-- What stands between a saying and the firings behind it: the same talk of the same account, with as many firings, in
-- which it is said and told so.
pub record HasSaid {M : Type 0} (number : ℕ) (what : Said) (h k : HeldTalk M) : Type 0 where
  pub says : Says h.talk.a h.talk.state h.talk.account what k.talk.state
  pub left : k.left ≡ h.left
  pub program : k.talk.a ≡ h.talk.a
  pub account : k.talk.account ≡ h.talk.account
  pub printed : k.text.items
      ≡ h.text.items ++ talk_line_text (decimal number ++ codes " " ++ codes "said")

module _ {M : Type 0} {number : ℕ} {what : Said} {h k : HeldTalk M} (m : HeldTalk M) (said : HasSaid number what h k)
    (program : m.talk.a ≡ k.talk.a) (account : m.talk.account ≡ k.talk.account) where
  own-rest : {made : ℕ} {how : Rest} → ComesToRest k.talk.a k.left k.talk.state made how m.talk.state
      → ComesToRest h.talk.a h.left k.talk.state made how m.talk.state
  own-rest {made} {how} rests =
      subst (λ (n : ℕ). ComesToRest h.talk.a n k.talk.state made how m.talk.state) said.left
      (subst (λ (x : Acceptance). ComesToRest x k.left k.talk.state made how m.talk.state) said.program rests)

  taken-quiet : {made : ℕ} → ComesToRest k.talk.a k.left k.talk.state made rest.Quiet m.talk.state
      → m.left ≡ k.left - made → m.text.items ≡ k.text.items
      → HasTaken (number ∷ []) (speaks what ∷ []) h true m
  taken-quiet {made} rests left printed = record {
    replies = course.said ∷ [];
    comes =
        says-comes h.talk.a h.talk.account h.left h.talk.state what said.says (own-rest rests)
        (left ∙ ap (λ (n : ℕ). n - made) said.left);
    printed =
        printed-line h.talk.a.program h.talk.a.annotations.unit course.said h.text.items m.text.items number refl
        (printed ∙ said.printed);
    program = program ∙ said.program;
    account = account ∙ said.account;
  }

  taken-stopped : {made : ℕ} (how : Rest) → IsStopped how
      → ComesToRest k.talk.a k.left k.talk.state made how m.talk.state
      → m.text.items ≡ k.text.items ++ talk_line_text (stopped_text how)
      → HasTaken (number ∷ []) (speaks what ∷ []) h false m
  taken-stopped how is rests printed = record {
    replies = course.said ∷ course.stopped how ∷ [];
    comes = stops-comes h.talk.a h.talk.account h.left h.talk.state m.left what how said.says (own-rest rests) is;
    printed =
        printed-more h.talk.a.program h.talk.a.annotations.unit (number ∷ []) [] (course.said ∷ [])
        (course.stopped how ∷ []) h.text.items k.text.items m.text.items
        (printed-line h.talk.a.program h.talk.a.annotations.unit course.said h.text.items k.text.items number refl
        said.printed)
        (printed-other h.talk.a.program h.talk.a.annotations.unit (course.stopped how) k.text.items m.text.items refl
        printed);
    program = program ∙ said.program;
    account = account ∙ said.account;
  }

  by_rest : {made : ℕ} (more : Bool) (how : Rest) → ComesToRest k.talk.a k.left k.talk.state made how m.talk.state
      → m.left ≡ k.left - made → IsRestTold how more k.text.items m.text.items
      → HasTaken (number ∷ []) (speaks what ∷ []) h more m
  by_rest more rest.Quiet rests left told =
      subst (λ (b : Bool). HasTaken (number ∷ []) (speaks what ∷ []) h b m) (sym told.0) (taken-quiet rests left told.1)
  by_rest more (rest.Faulted pid f) rests left told =
      subst (λ (b : Bool). HasTaken (number ∷ []) (speaks what ∷ []) h b m) (sym told.0)
      (taken-stopped (rest.Faulted pid f) tt rests told.1)
  by_rest more rest.Steps rests left told =
      subst (λ (b : Bool). HasTaken (number ∷ []) (speaks what ∷ []) h b m) (sym told.0)
      (taken-stopped rest.Steps tt rests told.1)

  -- what is said and what is fired behind it is one turn
  pub said-settled : (more : Bool) → HasSettled k more m → HasTaken (number ∷ []) (speaks what ∷ []) h more m
  said-settled more settled = by_rest more settled.how settled.rests settled.left settled.told

  -- the same of what is answered
  pub settled-taken : {E : Type 0} (r : Result Bool E) → IfOk r (λ more. HasSettled k more m)
      → IfOk r (λ more. HasTaken (number ∷ []) (speaks what ∷ []) h more m)
  settled-taken (Ok more) settled = said-settled more settled
  settled-taken (Err e) nothing = tt

-- ---- what is not said, and listening

-- it is not said for a reason of its own, where memory was found
pub answer-unsaid : (a : Acceptance) (s t : State) (account : ℕ) (what : Said) (why : SayError) → why ≢ error.NoMemory
    → AnswersSaying a s account what (Err why) t → IsUnsaid a s account what why × (t ≡ s)
answer-unsaid a s t account what error.Protocol other answers = answers
answer-unsaid a s t account what (error.NoGas has needs) other answers = answers
answer-unsaid a s t account what error.NoMemory other answers = absurd (other refl)

module _ {M : Type 0} (number : ℕ) (h k : HeldTalk M) (program : k.talk.a ≡ h.talk.a)
    (account : k.talk.account ≡ h.talk.account) (same : h.accepted.now ≡ h.talk.a) where
  -- it is told that it is not said, and why
  pub unsaid-taken : (what : Said) (why : SayError) → IsUnsaid h.talk.a h.talk.state h.talk.account what why
      → k.text.items ≡ h.text.items ++ talk_line_text (decimal number ++ codes " "
      ++ unsaid_text h.accepted.now.annotations.unit why)
      → HasTaken (number ∷ []) (speaks what ∷ []) h false k
  unsaid-taken what why unsaid printed = record {
    replies = course.unsaid why ∷ [];
    comes = leaves-comes h.talk.a h.talk.account h.left h.talk.state k.left k.talk.state what why unsaid;
    printed =
        printed-line h.talk.a.program h.talk.a.annotations.unit (course.unsaid why) h.text.items k.text.items number
        refl
        (subst (λ (x : Acceptance). k.text.items ≡ h.text.items ++ talk_line_text (decimal number ++ codes " "
        ++ unsaid_text x.annotations.unit why)) same printed);
    program = program;
    account = account;
  }

  -- it is told what is heard
  pub heard-taken : (what : Option Heard) → AnswersHearing h.talk.state h.talk.account what k.talk.state
      → k.left ≡ h.left
      → k.text.items ≡ h.text.items ++ talk_line_text (decimal number ++ codes " " ++ (codes "heard "
      ++ heard_text h.accepted.now.program h.accepted.now.annotations.unit what))
      → HasTaken (number ∷ []) (listens ∷ []) h true k
  heard-taken what answers left printed = record {
    replies = course.heard what ∷ [];
    comes =
        subst (λ (n : ℕ). ComesOn h.talk.a h.talk.account h.left h.talk.state (listens ∷ []) (course.heard what ∷ [])
        true n k.talk.state) (sym left) (hears-comes h.talk.a h.talk.account h.left h.talk.state what answers);
    printed =
        printed-line h.talk.a.program h.talk.a.annotations.unit (course.heard what) h.text.items k.text.items number
        refl
        (subst (λ (x : Acceptance). k.text.items ≡ h.text.items ++ talk_line_text (decimal number ++ codes " "
        ++ (codes "heard " ++ heard_text x.program x.annotations.unit what))) same printed);
    program = program;
    account = account;
  }

  -- the same of what is answered
  pub told-heard : {E : Type 0} (r : Result Unit E) (what : Option Heard)
      → AnswersHearing h.talk.state h.talk.account what k.talk.state → k.left ≡ h.left
      → OnOk r (k.text.items ≡ h.text.items ++ talk_line_text (decimal number ++ codes " " ++ (codes "heard "
      ++ heard_text h.accepted.now.program h.accepted.now.annotations.unit what)))
      → OnOk r (HasTaken (number ∷ []) (listens ∷ []) h true k)
  told-heard (Ok done) what answers left printed = heard-taken what answers left printed
  told-heard (Err e) what answers left nothing = tt
