-- How far the next numbers rise along a talk.
use Rattle.std.proofs.Common.{◌≡◌, ◌∙◌, ℕ, ◌+◌, ◌-◌, ◌≤◌, Option, Some, None, sym, subst, ap, arith}
use Rattle.nomos_types.specs.Acceptance.{Acceptance, IsAccepted}
use Rattle.nomos_deeds.specs.Acting.{HasNumbers}
use Rattle.nomos_machine.specs.Hearing.{AnswersHearing}
use Rattle.nomos_machine.specs.Opening.{OpensTalk}
use Rattle.nomos_machine.specs.Resting.{ComesToRest}
use Rattle.nomos_machine.specs.Saying.{Says}
use Rattle.nomos_machine.specs.State.{State}
use Rattle.nomos_machine.specs.TypedState.{IsTyped}
use Rattle.nomos_machine.specs.declared.object.Heard.{Heard}
use Rattle.nomos_machine.specs.declared.object.Said.{Said}
use Rattle.nomos_machine.specs.declared.rest.Rest.{Rest}
use Rattle.nomos_machine.proofs.PolicyLaws.{follows-run}
use Rattle.nomos_machine.proofs.RunLaws.{run-rises}
use Rattle.nomos_visit.specs.TalkHeld.{LeavesNumbers}
use Rattle.nomos_visit.specs.mirror.Holding.{IsHeld}
use Rattle.nomos_visit.specs.declared.held.HeldTalk.{HeldTalk}

-- what is made in so many firings
pub rest-room : {a : Acceptance} → IsAccepted a → {limit made : ℕ} {s t : State} {how : Rest} (left lines : ℕ)
    → IsTyped a s → ComesToRest a limit s made how t → left + made ≡ limit → LeavesNumbers s (limit + lines)
    → LeavesNumbers t (left + lines)
rest-room accepted {s = s} {t = t} left lines typed rests is room =
    let rises = run-rises accepted s t rests.pids typed (follows-run rests.run.follows) in
    record {
      objects = omega (arith, rises.objects, rests.count, is, room.objects);
      names = omega (arith, rises.names, rests.count, is, room.names);
    }

-- a saying takes one number of each kind
pub said-room : {a : Acceptance} {s t : State} {account : ℕ} {what : Said} (count : ℕ) → Says a s account what t
    → LeavesNumbers s (count + 1) → LeavesNumbers t count
said-room count says room = record {
  objects = omega (arith, ap (λ (u : State). u.next_object) says.after, room.objects);
  names = omega (arith, ap (λ (u : State). u.next_name) says.after, room.names);
}

-- listening takes none
pub heard-room : {s t : State} (account : ℕ) (what : Option Heard) (count : ℕ) → AnswersHearing s account what t
    → LeavesNumbers s (count + 1) → LeavesNumbers t count
heard-room account (Some what) count hears room = record {
  objects = omega (arith, ap (λ (u : State). u.next_object) hears.after, room.objects);
  names = omega (arith, ap (λ (u : State). u.next_name) hears.after, room.names);
}
heard-room account None count nothing room = record {
  objects = omega (arith, ap (λ (u : State). u.next_object) nothing.1, room.objects);
  names = omega (arith, ap (λ (u : State). u.next_name) nothing.1, room.names);
}

-- nor does what is not said
pub unsaid-room : {s t : State} (count : ℕ) → t ≡ s → LeavesNumbers s (count + 1) → LeavesNumbers t count
unsaid-room count same room = record {
  objects = omega (arith, ap (λ (u : State). u.next_object) same, room.objects);
  names = omega (arith, ap (λ (u : State). u.next_name) same, room.names);
}

-- room for some is room for fewer
pub fewer-room : {s : State} {count less : ℕ} → LeavesNumbers s count → less ≤ count → LeavesNumbers s less
fewer-room room few = record {
  objects = omega (arith, room.objects, few);
  names = omega (arith, room.names, few);
}

-- ---- what holds of a talk that is held

-- where fewer lines are left
pub held-fewer : {M : Type 0} {h : HeldTalk M} {lines fewer : ℕ} → IsHeld h lines → fewer ≤ lines → IsHeld h fewer
held-fewer held few = record {
  program = held.program;
  room = fewer-room held.room (omega (arith, few));
}

module _ {M : Type 0} {h k : HeldTalk M} (same : k.accepted.now ≡ h.accepted.now) (program : k.talk.a ≡ h.talk.a) where
  -- behind firings
  pub held-settled : {made : ℕ} {how : Rest} → IsAccepted h.accepted.now → IsTyped h.talk.a h.talk.state
      → ComesToRest h.talk.a h.left h.talk.state made how k.talk.state → k.left ≡ h.left - made
      → (lines : ℕ) → IsHeld h lines → IsHeld k lines
  held-settled accepted typed rests left lines held = record {
    program = same ∙ held.program ∙ sym program;
    room =
        rest-room (subst IsAccepted held.program accepted) k.left lines typed rests (omega (arith, left, rests.few))
        held.room;
  }

  -- behind a saying, for which one line less is left
  pub held-said : {account : ℕ} {what : Said} → Says h.talk.a h.talk.state account what k.talk.state → k.left ≡ h.left
      → (lines : ℕ) → IsHeld h (lines + 1) → IsHeld k lines
  held-said says left lines held = record {
    program = same ∙ held.program ∙ sym program;
    room = said-room (k.left + lines) says (fewer-room held.room (omega (arith, left)));
  }

  -- behind a listening
  pub held-heard : (account : ℕ) (what : Option Heard) → AnswersHearing h.talk.state account what k.talk.state
      → k.left ≡ h.left → (lines : ℕ) → IsHeld h (lines + 1) → IsHeld k lines
  held-heard account what answers left lines held = record {
    program = same ∙ held.program ∙ sym program;
    room = heard-room account what (k.left + lines) answers (fewer-room held.room (omega (arith, left)));
  }

  -- and behind what is not said
  pub held-unsaid : k.talk.state ≡ h.talk.state → k.left ≡ h.left → (lines : ℕ) → IsHeld h (lines + 1) → IsHeld k lines
  held-unsaid state left lines held = record {
    program = same ∙ held.program ∙ sym program;
    room = unsaid-room (k.left + lines) state (fewer-room held.room (omega (arith, left)));
  }
