-- Turns that are taken one after another come to a talk.
use Rattle.std.proofs.Common.{◌≡◌, ◌∙◌, ℕ, ◌+◌, ◌<◌, List, [], ◌∷◌, ◌++◌, length, Bool, true, false, map, take, get_or, refl, sym, subst, ap, append_assoc}
use Rattle.std.proofs.lemmas.List.{append-nil, map-append, take_more}
use Rattle.nomos_ir.specs.declared.lists.ProgramLists.{ProgramLists}
use Rattle.nomos_types.specs.Acceptance.{Acceptance}
use Rattle.nomos_machine.specs.State.{State}
use Rattle.nomos_monitor.specs.TalkCourse.{PartyTurn, TalkGoesOn, TalkReply, speaks, listens}
use Rattle.nomos_monitor.specs.TalkCourse as course
use Rattle.nomos_script.specs.declared.talk_line.TalkLine.{TalkLine}
use Rattle.nomos_visit.specs.TalkText.{replies_text, turn_of, turns_of}
use Rattle.nomos_visit.specs.Visits.{numbers_of}
use Rattle.nomos_visit.specs.mirror.Holding.{ArePrinted, ComesOn, HasHeld, HasTaken}
use Rattle.nomos_visit.specs.declared.held.HeldTalk.{HeldTalk}

-- ---- the course

-- some turns, and others behind them
pub comes-more : (a : Acceptance) (account left remain last : ℕ) (s t u : State) (turns next : List PartyTurn)
    (replies others : List TalkReply) (more : Bool) → ComesOn a account left s turns replies true remain t
    → ComesOn a account remain t next others more last u
    → ComesOn a account left s (turns ++ next) (replies ++ others) more last u
comes-more a account left remain last s t u turns next replies others true one two = λ behind fine further goes.
    subst (λ (rs : List TalkReply). TalkGoesOn a account left s ((turns ++ next) ++ behind) fine rs)
    (sym (append_assoc replies others further))
    (subst (λ (ts : List PartyTurn). TalkGoesOn a account left s ts fine (replies ++ (others ++ further)))
    (sym (append_assoc turns next behind))
    (one (next ++ behind) fine (others ++ further) (two behind fine further goes)))
comes-more a account left remain last s t u turns next replies others false one two = λ behind.
    subst (λ (ts : List PartyTurn). TalkGoesOn a account left s ts false (replies ++ others))
    (sym (append_assoc turns next behind)) (one (next ++ behind) false others (two behind))

-- ---- what is printed

module _ (lists : ProgramLists) (unit : ℕ) where
  pub printed-none : (text : List ℕ) → ArePrinted lists unit [] [] text text
  printed-none text = λ behind others. refl

  pub printed-more : (numbers next : List ℕ) (replies others : List TalkReply) (before between after : List ℕ)
      → ArePrinted lists unit numbers replies before between → ArePrinted lists unit next others between after
      → ArePrinted lists unit (numbers ++ next) (replies ++ others) before after
  printed-more numbers next replies others before between after one two = λ behind further.
      ap (λ (ns : List ℕ). before ++ replies_text lists unit ns ((replies ++ others) ++ further))
      (append_assoc numbers next behind)
      ∙ ap (λ (rs : List TalkReply). before ++ replies_text lists unit (numbers ++ (next ++ behind)) rs)
      (append_assoc replies others further)
      ∙ one (next ++ behind) (others ++ further) ∙ two behind further

  -- all that is printed of some replies, where others might have come
  pub printed-all : (numbers behind : List ℕ) (replies : List TalkReply) (before after : List ℕ)
      → ArePrinted lists unit numbers replies before after
      → after ≡ before ++ replies_text lists unit (numbers ++ behind) replies
  printed-all numbers behind replies before after printed =
      sym (append-nil after) ∙ sym (printed behind [])
      ∙ ap (λ (rs : List TalkReply). before ++ replies_text lists unit (numbers ++ behind) rs) (append-nil replies)

-- ---- talks that are held

module _ {M : Type 0} where
  pub taken-none : (h : HeldTalk M) → HasTaken [] [] h true h
  taken-none h = record {
    replies = [];
    comes = λ behind fine others goes. goes;
    printed = printed-none h.talk.a.program h.talk.a.annotations.unit h.text.items;
    program = refl;
    account = refl;
  }

  pub taken-more : {numbers next : List ℕ} {turns further : List PartyTurn} {h k m : HeldTalk M} {more : Bool}
      → HasTaken numbers turns h true k → HasTaken next further k more m
      → HasTaken (numbers ++ next) (turns ++ further) h more m
  taken-more {numbers} {next} {turns} {further} {h} {k} {m} {more} one two =
      let comes = subst
      (λ (x : ℕ). ComesOn h.talk.a x k.left k.talk.state further two.replies more m.left m.talk.state)
      one.account
      (subst (λ (x : Acceptance). ComesOn x k.talk.account k.left k.talk.state further two.replies more m.left
      m.talk.state) one.program two.comes) in
      let printed = subst
      (λ (x : Acceptance). ArePrinted x.program x.annotations.unit next two.replies k.text.items m.text.items)
      one.program two.printed in
      record {
        replies = one.replies ++ two.replies;
        comes =
            comes-more h.talk.a h.talk.account h.left k.left m.left h.talk.state k.talk.state m.talk.state turns further
            one.replies two.replies more one.comes comes;
        printed =
            printed-more h.talk.a.program h.talk.a.annotations.unit numbers next one.replies two.replies h.text.items
            k.text.items m.text.items one.printed printed;
        program = two.program ∙ one.program;
        account = two.account ∙ one.account;
      }

-- ---- talks that have ended

module _ {M : Type 0} {h k : HeldTalk M} where
  -- all is done that the lines say
  pub held-done : (lines : List (ℕ × TalkLine))
      → HasTaken (numbers_of lines) (turns_of h.talk.a.program lines) h true k → HasHeld lines h true k
  held-done lines taken =
      let goes = taken.comes [] true [] (course.done k.left k.talk.state) in
      record {
        replies = taken.replies;
        course =
            subst (λ (rs : List TalkReply). TalkGoesOn h.talk.a h.talk.account h.left h.talk.state
            (turns_of h.talk.a.program lines) true rs) (append-nil taken.replies)
            (subst (λ (ts : List PartyTurn). TalkGoesOn h.talk.a h.talk.account h.left h.talk.state ts true
            (taken.replies ++ [])) (append-nil (turns_of h.talk.a.program lines)) goes);
        printed =
            printed-all h.talk.a.program h.talk.a.annotations.unit (numbers_of lines) [] taken.replies h.text.items
            k.text.items taken.printed
            ∙ ap (λ (ns : List ℕ). h.text.items ++ replies_text h.talk.a.program h.talk.a.annotations.unit ns
            taken.replies) (append-nil (numbers_of lines));
      }

  -- the talk has ended behind some lines
  pub held-ended : (lines further : List (ℕ × TalkLine))
      → HasTaken (numbers_of lines) (turns_of h.talk.a.program lines) h false k → HasHeld (lines ++ further) h false k
  held-ended lines further taken = record {
    replies = taken.replies;
    course =
        subst (λ (ts : List PartyTurn). TalkGoesOn h.talk.a h.talk.account h.left h.talk.state ts false taken.replies)
        (sym (map-append (λ (l : ℕ × TalkLine). turn_of h.talk.a.program l.1) lines further))
        (taken.comes (turns_of h.talk.a.program further));
    printed =
        printed-all h.talk.a.program h.talk.a.annotations.unit (numbers_of lines) (numbers_of further) taken.replies
        h.text.items k.text.items taken.printed
        ∙ ap (λ (ns : List ℕ). h.text.items ++ replies_text h.talk.a.program h.talk.a.annotations.unit ns
        taken.replies) (sym (map-append (λ (l : ℕ × TalkLine). l.0) lines further));
  }

  -- one line more
  pub taken-line : {m : HeldTalk M} {more : Bool} (lines : List (ℕ × TalkLine)) (i : ℕ) (line : ℕ × TalkLine)
      → i < length lines → line ≡ get_or lines i line
      → HasTaken (numbers_of (take i lines)) (turns_of h.talk.a.program (take i lines)) h true k
      → HasTaken (line.0 ∷ []) (turn_of k.talk.a.program line.1 ∷ []) k more m
      → HasTaken (numbers_of (take (i + 1) lines)) (turns_of h.talk.a.program (take (i + 1) lines)) h more m
  taken-line {m} {more} lines i line within is one two =
      let turn = λ (l : ℕ × TalkLine). turn_of h.talk.a.program l.1 in
      let next : take (i + 1) lines ≡ take i lines ++ line ∷ [] =
      take_more lines i line within ∙ ap (λ (l : ℕ × TalkLine). take i lines ++ l ∷ []) (sym is) in
      let numbers : numbers_of (take (i + 1) lines) ≡ numbers_of (take i lines) ++ line.0 ∷ [] =
      ap numbers_of next ∙ map-append (λ (l : ℕ × TalkLine). l.0) (take i lines) (line ∷ []) in
      let turns : map turn (take (i + 1) lines) ≡ map turn (take i lines) ++ turn line ∷ [] =
      ap (map turn) next ∙ map-append turn (take i lines) (line ∷ []) in
      subst (λ (ns : List ℕ). HasTaken ns (map turn (take (i + 1) lines)) h more m) (sym numbers)
      (subst (λ (ts : List PartyTurn). HasTaken (numbers_of (take i lines) ++ line.0 ∷ []) ts h more m) (sym turns)
      (taken-more one (subst (λ (a : Acceptance). HasTaken (line.0 ∷ []) (turn_of a.program line.1 ∷ []) k more m)
      one.program two)))
