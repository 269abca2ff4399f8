-- Two calls of the same words on the same texts end alike, unless reading, writing or memory fails in one of them.
use Rattle.std.proofs.Common.{◌≡◌, ◌∙◌, ◌⊎◌, inl, inr, ℕ, List, Option, Some, None, refl, sym, subst}
use Rattle.nomos_answers.specs.Outside.{Input}
use Rattle.nomos_answers.specs.Written.{with_text}
use Rattle.nomos_types.specs.Acceptance.{Acceptance, IsAccepted}
use Rattle.nomos_carry.specs.CarryCall as call
use Rattle.nomos_carry.specs.CarryCall.{CarryCall, CarryEndsOn, CarryTexts, IsCallDue, IsDueOnAccepted, carry_inputs, snapshot_if}
use Rattle.nomos_carry.specs.CarryClaims.{CarryFails, EndsAlike, HasPrinted}
use Rattle.nomos_carry.specs.CarryWords.{CarryTask, carry, contract_word, numbers, renumber}
use Rattle.nomos_carry.proofs.EndLaws as view
use Rattle.nomos_carry.proofs.EndLaws.{EndView, end-view}
use Rattle.nomos_carry.proofs.OneDueLaws.{AreAlike, OneDue, carry-one, numbers-one}
use Rattle.nomos_carry.proofs.RefusalLaws.{OneRefusal, accepted-fault, accepted-one, refusal-one}
use Rattle.nomos_carry.proofs.RenumberDueLaws.{renumber-one}
use Rattle.nomos_carry.proofs.TaskLaws.{one-task}

-- ---- on an accepted contract

if-alike : (from : Option (List ℕ)) (x y : Input) → x.text ≡ y.text → AreAlike (snapshot_if from x) (snapshot_if from y)
if-alike None x y same = tt
if-alike (Some word) x y same = same

-- next numbers are told without a next snapshot
numbers-alike : {a : Acceptance} → IsAccepted a → (x y : Input) → x.text ≡ y.text → (status : ℕ) (out : List ℕ)
    (next : Option (List ℕ)) (other : ℕ) (also : List ℕ) (later : Option (List ℕ)) (s u : Input) (file from : List ℕ)
    → IsDueOnAccepted a x s (numbers file from) status out next
    → IsDueOnAccepted a y u (numbers file from) other also later → OneDue status out next other also later
numbers-alike accepted x y same status out next other also later s u file from one two =
    elim (numbers-one accepted x y same status out other also one.0 two.0) [
      | inl both ↦ inl (both.0, both.1, one.1 ∙ sym two.1)
      | inr fails ↦ inr fails
    ]

due-alike : {a : Acceptance} → IsAccepted a → (x y s u : Input) → x.text ≡ y.text → s.text ≡ u.text → (task : CarryTask)
    (status : ℕ) (out : List ℕ) (next : Option (List ℕ)) (other : ℕ) (also : List ℕ) (later : Option (List ℕ))
    → IsDueOnAccepted a x s task status out next → IsDueOnAccepted a y u task other also later
    → OneDue status out next other also later
due-alike accepted x y s u same scripts (carry file from words new) status out next other also later one two =
    carry-one accepted (snapshot_if from x) (snapshot_if from y) s u (if-alike from x y same) scripts status out next
    other also later one two
due-alike accepted x y s u same scripts (renumber file from new) status out next other also later one two =
    renumber-one accepted x y same status out next other also later one two
due-alike accepted x y s u same scripts (numbers file from) status out next other also later one two =
    numbers-alike accepted x y same status out next other also later s u file from one two

-- ---- two calls

module _ (c d : CarryCall) (t : CarryTexts) where
  refusals-alike : (status : ℕ) (out : List ℕ) (other : ℕ) (also : List ℕ) → OneRefusal status out other also
      → OneDue status out None other also None
  refusals-alike status out other also (inl (statuses, outs)) = inl (statuses, outs, refl)
  refusals-alike status out other also (inr fails) = inr fails

  words-alike : (words : List (List ℕ)) (status : ℕ) (out : List ℕ) (next : Option (List ℕ)) (other : ℕ)
      (also : List ℕ) (later : Option (List ℕ)) → IsCallDue words (carry_inputs c t) status out next
      → IsCallDue words (carry_inputs d t) other also later → OneDue status out next other also later
  words-alike words status out next other also later (call.usage none) (call.usage none2) = inl (refl, refl, refl)
  words-alike words status out next other also later (call.usage none) (call.unaccepted task n o asks is) =
      absurd (none task asks)
  words-alike words status out next other also later (call.usage none)
      (call.accepted task a n o k asks is accepted due) =
      absurd (none task asks)
  words-alike words status out next other also later (call.unaccepted task n o asks is) (call.usage none) =
      absurd (none task asks)
  words-alike words status out next other also later (call.unaccepted task n o asks is)
      (call.unaccepted task2 m p asks2 was) =
      refusals-alike n o m p
      (refusal-one t.contract (contract_word task) (contract_word task2) (carry_inputs c t).contract
      (carry_inputs d t).contract refl refl n o m p is was)
  words-alike words status out next other also later (call.unaccepted task n o asks is)
      (call.accepted task2 a m p k asks2 was accepted due) =
      inr (inl (accepted-fault (contract_word task) (carry_inputs c t).contract a n o was is))
  words-alike words status out next other also later (call.accepted task a n o k asks is accepted due)
      (call.usage none) =
      absurd (none task asks)
  words-alike words status out next other also later (call.accepted task a n o k asks is accepted due)
      (call.unaccepted task2 m p asks2 was) =
      inr (inr (accepted-fault (contract_word task2) (carry_inputs d t).contract a m p is was))
  words-alike words status out next other also later (call.accepted task a n o k asks is accepted due)
      (call.accepted task2 b m p j asks2 was accepted2 due2) =
      let tasks : task2 ≡ task = one-task words task2 task asks2 asks in
      let programs : b ≡ a = accepted-one t.contract b a was is in
      let there : IsDueOnAccepted a (carry_inputs d t).snapshot (carry_inputs d t).script task m p j =
      subst (λ (x : Acceptance). IsDueOnAccepted x (carry_inputs d t).snapshot (carry_inputs d t).script task m p j)
      programs
      (subst (λ (x : CarryTask). IsDueOnAccepted b (carry_inputs d t).snapshot (carry_inputs d t).script x m p j) tasks
      due2) in
      due-alike accepted (carry_inputs c t).snapshot (carry_inputs d t).snapshot (carry_inputs c t).script
      (carry_inputs d t).script refl refl task n o k m p j due there

  -- what is due of both was written
  whole-alike : (out also : List ℕ) (next later : Option (List ℕ)) → HasPrinted c out → HasPrinted d also
      → c.new.after ≡ with_text c.new.before next → d.new.after ≡ with_text d.new.before later
      → OneDue c.status out next d.status also later → EndsAlike c d ⊎ (CarryFails c ⊎ CarryFails d)
  whole-alike out also next later printed prints saved saves (inl (statuses, outs, nexts)) =
      inl (record {
        status = statuses;
        out = (out, printed, subst (λ (bytes : List ℕ). HasPrinted d bytes) (sym outs) prints);
        next = (
          next,
          saved,
          subst (λ (text : Option (List ℕ)). d.new.after ≡ with_text d.new.before text) (sym nexts) saves,
        );
      })
  whole-alike out also next later printed prints saved saves (inr (inl five)) = inr (inl (inl five))
  whole-alike out also next later printed prints saved saves (inr (inr five)) = inr (inr (inl five))

  views-alike : d.words ≡ c.words → EndView c (carry_inputs c t) → EndView d (carry_inputs d t)
      → EndsAlike c d ⊎ (CarryFails c ⊎ CarryFails d)
  views-alike same (view.six is) other = inr (inl (inr (inl is)))
  views-alike same (view.seven is kept) other = inr (inl (inr (inr is)))
  views-alike same (view.whole out next due printed saved) (view.six is) = inr (inr (inr (inl is)))
  views-alike same (view.whole out next due printed saved) (view.seven is kept) = inr (inr (inr (inr is)))
  views-alike same (view.whole out next due printed saved) (view.whole also later due2 prints saves) =
      let there = subst (λ (words : List (List ℕ)). IsCallDue words (carry_inputs d t) d.status also later) same due2 in
      whole-alike out also next later printed prints saved saves
      (words-alike c.words c.status out next d.status also later due there)

pub calls-alike : (c d : CarryCall) (t : CarryTexts) → CarryEndsOn c t → CarryEndsOn d t → d.words ≡ c.words
    → EndsAlike c d ⊎ (CarryFails c ⊎ CarryFails d)
calls-alike c d t ends other same = views-alike c d t same (end-view c t ends) (end-view d t other)
