-- A talk is held in one way: what is told of it, and whether it came to its end, are determined.
use Rattle.std.proofs.Common.{◌≡◌, ◌∙◌, ℕ, ◌-◌, List, [], ◌∷◌, Bool, refl, sym, subst, ap}
use Rattle.nomos_types.specs.Acceptance.{Acceptance, IsAccepted}
use Rattle.nomos_machine.specs.Resting.{ComesToRest}
use Rattle.nomos_machine.specs.State.{State}
use Rattle.nomos_machine.specs.declared.rest.Rest.{Rest}
use Rattle.nomos_machine.specs.declared.rest.Rest.TheVariants as rest
use Rattle.nomos_machine.proofs.HearingLaws.{hearing-once}
use Rattle.nomos_machine.proofs.RestLaws.{rest-once}
use Rattle.nomos_machine.proofs.SayingLaws.{says-once}
use Rattle.nomos_monitor.specs.TalkCourse.{PartyTurn, TalkReply, TalkGoesOn, HoldsTalk, IsStopped, opened, refused, said, unsaid, heard, stopped, done, hears, says, stops, leaves, is_refused, goes_on, is_stopped}
use Rattle.nomos_monitor.specs.declared.talk_refusal.SayError.{SayError}
use Rattle.nomos_monitor.specs.declared.talk_refusal.TalkRefusal.{TalkRefusal}
use Rattle.nomos_monitor.proofs.AnswerLaws.{one-refusal, refused-not_opened}
use Rattle.nomos_monitor.proofs.OnceLaws.{opens-once, unsaid-not_said, unsaid-once}

-- the same is told, and both come to their end or neither does
abbrev pub IsToldAlike : Bool → List TalkReply → Bool → List TalkReply → Type 0
IsToldAlike fine replies good others = (fine ≡ good) × (replies ≡ others)

alike-behind : (reply other : TalkReply) → reply ≡ other → {fine good : Bool} {replies others : List TalkReply}
    → IsToldAlike fine replies good others → IsToldAlike fine (reply ∷ replies) good (other ∷ others)
alike-behind reply other same {fine} {good} {replies} {others} (one, rest) =
    (one, ap (λ (r : TalkReply). r ∷ replies) same ∙ ap (λ (rs : List TalkReply). other ∷ rs) rest)

-- what came to rest by itself did not stop
quiet-not_stopped : (how : Rest) → IsStopped how → rest.Quiet ≡ how → ⊥
quiet-not_stopped how is same = subst IsStopped (sym same) is

-- firings from one state come to rest in one way
rests-alike : {a : Acceptance} {left made count : ℕ} {t v u w : State} {how other : Rest} → t ≡ v
    → ComesToRest a left t made how u → ComesToRest a left v count other w → how ≡ other
rests-alike {a} {left} {count = count} {w = w} {other = other} same one two =
    (rest-once a left one (subst (λ (x : State). ComesToRest a left x count other w) (sym same) two)).1

module _ {a : Acceptance} (accepted : IsAccepted a) {account : ℕ} where
  -- where a talk goes on behind firings, it is from one state, with as many left
  goes-from : {left made count : ℕ} {t v u w : State} {turns : List PartyTurn} {fine : Bool} {replies : List TalkReply}
      → t ≡ v → ComesToRest a left t made rest.Quiet u → ComesToRest a left v count rest.Quiet w
      → TalkGoesOn a account (left - count) w turns fine replies
      → TalkGoesOn a account (left - made) u turns fine replies
  goes-from {left} {made} {count} {t} {v} {u} {w} {turns} {fine} {replies} same one two goes =
      let both = rest-once a left one (subst (λ (x : State). ComesToRest a left x count rest.Quiet w) (sym same) two) in
      subst (λ (n : ℕ). TalkGoesOn a account (left - n) u turns fine replies) (sym both.0)
      (subst (λ (x : State). TalkGoesOn a account (left - count) x turns fine replies) (sym both.2) goes)

  -- from one state a talk goes on in one way
  pub goes-once : {left : ℕ} {s : State} {turns : List PartyTurn} {fine good : Bool} {replies others : List TalkReply}
      → TalkGoesOn a account left s turns fine replies → TalkGoesOn a account left s turns good others
      → IsToldAlike fine replies good others
  goes-once (done left s) (done _ _) = (refl, refl)
  goes-once (hears left s t what turns fine replies answers goes) (hears _ _ v other _ good others answered went) =
      let (same, state) = hearing-once s t v account what other answers answered in
      alike-behind (heard what) (heard other) (ap heard same)
      (goes-once goes (subst (λ (x : State). TalkGoesOn a account left x turns good others) (sym state) went))
  goes-once (says left made s t u what turns fine replies one rests goes)
      (says _ count _ v w _ _ good others two rested went) =
      alike-behind said said refl (goes-once goes (goes-from (says-once one two) rests rested went))
  goes-once (says left made s t u what turns fine replies one rests goes) (stops _ count _ v w _ how _ two rested is) =
      absurd (quiet-not_stopped how is (rests-alike (says-once one two) rests rested))
  goes-once (says left made s t u what turns fine replies one rests goes) (leaves _ _ _ why _ none) =
      absurd (unsaid-not_said a s account what why t none one)
  goes-once (stops left made s t u what how turns one rests is) (says _ count _ v w _ _ good others two rested went) =
      absurd (quiet-not_stopped how is (rests-alike (says-once two one) rested rests))
  goes-once (stops left made s t u what how turns one rests is) (stops _ count _ v w _ other _ two rested so) =
      (refl, ap (λ (r : Rest). said ∷ stopped r ∷ []) (rests-alike (says-once one two) rests rested))
  goes-once (stops left made s t u what how turns one rests is) (leaves _ _ _ why _ none) =
      absurd (unsaid-not_said a s account what why t none one)
  goes-once (leaves left s what why turns none) (says _ count _ v w _ _ good others two rested went) =
      absurd (unsaid-not_said a s account what why v none two)
  goes-once (leaves left s what why turns none) (stops _ count _ v w _ how _ two rested is) =
      absurd (unsaid-not_said a s account what why v none two)
  goes-once (leaves left s what why turns none) (leaves _ _ _ other _ also) =
      (refl, ap (λ (e : SayError). unsaid e ∷ []) (unsaid-once a s account what why other none also))

  -- and a talk is held in one way
  pub talk-one : {s : State} {name : List ℕ} {limit : ℕ} {turns : List PartyTurn} {fine good : Bool}
      {replies others : List TalkReply} → HoldsTalk a s name account limit turns fine replies
      → HoldsTalk a s name account limit turns good others → IsToldAlike fine replies good others
  talk-one (is_refused why one) (is_refused other two) =
      (refl, ap (λ (r : TalkRefusal). refused r ∷ []) (one-refusal accepted why other one two))
  talk-one (is_refused why one) (goes_on count v w good others two rested went) =
      absurd (refused-not_opened accepted why v one two)
  talk-one (is_refused why one) (is_stopped count v w how two rested is) =
      absurd (refused-not_opened accepted why v one two)
  talk-one (goes_on made t u fine replies one rests goes) (is_refused why two) =
      absurd (refused-not_opened accepted why t two one)
  talk-one (goes_on made t u fine replies one rests goes) (goes_on count v w good others two rested went) =
      alike-behind opened opened refl (goes-once goes (goes-from (opens-once accepted one two) rests rested went))
  talk-one (goes_on made t u fine replies one rests goes) (is_stopped count v w how two rested is) =
      absurd (quiet-not_stopped how is (rests-alike (opens-once accepted one two) rests rested))
  talk-one (is_stopped made t u how one rests is) (is_refused why two) =
      absurd (refused-not_opened accepted why t two one)
  talk-one (is_stopped made t u how one rests is) (goes_on count v w good others two rested went) =
      absurd (quiet-not_stopped how is (rests-alike (opens-once accepted two one) rested rests))
  talk-one (is_stopped made t u how one rests is) (is_stopped count v w other two rested so) =
      (refl, ap (λ (r : Rest). opened ∷ stopped r ∷ []) (rests-alike (opens-once accepted one two) rests rested))
