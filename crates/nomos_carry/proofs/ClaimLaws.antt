-- All that is claimed of a call follows from how it ended.
use Rattle.std.proofs.Common.{◌≡◌, ◌≢◌, inl, inr, ℕ, List, Option, Some, None, sym, subst, arith}
use Rattle.nomos_accept.specs.AcceptedText.{IsAcceptedAs}
use Rattle.nomos_answers.specs.Outside.{Input}
use Rattle.nomos_answers.specs.RunsDue.{HasRunFrom, usual_orders}
use Rattle.nomos_answers.specs.Written.{with_text}
use Rattle.nomos_legal.specs.Ledger.{LedgerState, empty_ledger}
use Rattle.nomos_snapshot.specs.Text.{snapshot_text}
use Rattle.nomos_top.specs.Headline.{GoesRightTo}
use Rattle.nomos_top.specs.Seen.{IsDone}
use Rattle.nomos_types.specs.Acceptance.{Acceptance, IsAccepted}
use Rattle.nomos_carrying.proofs.RenumberedLaws.{renumbered-one}
use Rattle.nomos_carry.specs.CarryCall.{CarryCall, CarryEndsOn, CarryTexts, carry_inputs, snapshot_if}
use Rattle.nomos_carry.specs.CarryClaims.{AsksForCarry, AsksForNumbers, AsksForRenumbering, CarriesOn, CarryClaims, HasPrinted, HasSaved, Renumbers, TellsNext}
use Rattle.nomos_carry.specs.CarryWords.{carry, numbers, renumber}
use Rattle.nomos_carry.proofs.DeterminedLaws.{calls-alike}
use Rattle.nomos_carry.proofs.EndLaws as view
use Rattle.nomos_carry.proofs.EndLaws.{CarriedView, EndView, carry-view, done-view, due-view, end-view, numbers-view, renumber-view, undone-done, missed-undone, words-view}
use Rattle.nomos_carry.proofs.RightLaws.{begun-right, loaded-right}
use Rattle.nomos_carry.proofs.TaskLaws.{one-task}

-- ---- what a run that was carried on is

carried-right : (text : List ℕ) (a : Acceptance) → IsAcceptedAs text a → IsAccepted a → (from : Option (List ℕ))
    (snapshot script : Input) (status : ℕ) (out : List ℕ) (next : Option (List ℕ))
    → (v : CarriedView a (snapshot_if from snapshot) script status out next)
    → GoesRightTo a v.has.first v.passages v.last
carried-right text a is accepted (Some word) snapshot script status out next v =
    loaded-right text is accepted script.text v.has.items v.has.reads v.journal v.passages v.last v.has.stands
    snapshot.text v.has.first v.has.begins v.has.run
carried-right text a is accepted None snapshot script status out next v =
    let empty : v.has.first ≡ empty_ledger = v.has.begins in
    let run : HasRunFrom a empty_ledger v.has.items usual_orders v.journal v.passages v.last =
    subst (λ (l : LedgerState). HasRunFrom a l v.has.items usual_orders v.journal v.passages v.last) empty v.has.run in
    subst (λ (l : LedgerState). GoesRightTo a l v.passages v.last) (sym empty)
    (begun-right text is accepted script.text v.has.items v.has.reads v.journal v.passages v.last v.has.stands
    (snapshot_text a v.last) run v.saves v.loads)

-- ---- of a call

module _ (c : CarryCall) (t : CarryTexts) where
  -- a next snapshot that was due was written
  saved-text : (next : Option (List ℕ)) (text : List ℕ) → next ≡ Some text → c.new.after ≡ with_text c.new.before next
      → HasSaved c text
  saved-text next text is saved =
      subst (λ (n : Option (List ℕ)). c.new.after ≡ with_text c.new.before n) is saved

  printed-text : (out text : List ℕ) → out ≡ text → HasPrinted c out → HasPrinted c text
  printed-text out text is printed = subst (λ (bytes : List ℕ). HasPrinted c bytes) is printed

  carried-claim : (from : Option (List ℕ)) (out : List ℕ) (next : Option (List ℕ)) → HasPrinted c out
      → c.new.after ≡ with_text c.new.before next → (a : Acceptance) → IsAcceptedAs t.contract a → IsAccepted a
      → CarriedView a (snapshot_if from (carry_inputs c t).snapshot) (carry_inputs c t).script c.status out next
      → CarriesOn c t from
  carried-claim from out next printed saved a is accepted v = record {
    a = a;
    accepted = is;
    typed = is.typed;
    journal = v.journal;
    passages = v.passages;
    last = v.last;
    carried = v.has;
    right =
        carried-right t.contract a is accepted from (carry_inputs c t).snapshot (carry_inputs c t).script c.status out
        next v;
    status = v.status_is;
    printed = printed-text out _ v.out_is printed;
    saved = saved-text next _ v.next_is saved;
    loads = v.loads;
  }

  carries : EndView c (carry_inputs c t) → (from : Option (List ℕ)) → AsksForCarry c from → IsDone c.status
      → CarriesOn c t from
  carries (view.six is) from asks done = absurd (six-done is done)
    where
      six-done : c.status ≡ 6 → IsDone c.status → ⊥
      six-done six (inl zero) = omega (arith, six, zero)
      six-done six (inr three) = omega (arith, six, three)
  carries (view.seven is kept) from asks done = absurd (seven-done is done)
    where
      seven-done : c.status ≡ 7 → IsDone c.status → ⊥
      seven-done seven (inl zero) = omega (arith, seven, zero)
      seven-done seven (inr three) = omega (arith, seven, three)
  carries (view.whole out next due printed saved) from (file, script, new, asks) done =
      let d = done-view due done (carry file from script new) asks in
      elim (carry-view d.due) [
        | inl missed ↦ absurd (undone-done c.status (missed-undone c.status missed.0) done)
        | inr v ↦ carried-claim from out next printed saved d.a d.is d.accepted v
      ]

  renumbers : EndView c (carry_inputs c t) → AsksForRenumbering c → c.status ≡ 0 → Renumbers c t
  renumbers (view.six is) asks zero = absurd (omega (arith, is, zero))
  renumbers (view.seven is kept) asks zero = absurd (omega (arith, is, zero))
  renumbers (view.whole out next due printed saved) (file, snapshot, new, asks) zero =
      let d = done-view due (inl zero) (renumber file snapshot new) asks in
      elim (renumber-view d.due) [
        | inl missed ↦ absurd (undone-done c.status (missed-undone c.status missed.0) (inl zero))
        | inr v ↦
            record {
              a = d.a;
              accepted = d.is;
              before = v.before;
              after = v.after;
              loads_before = v.loads_before;
              renumbered = v.is;
              only = λ m is. renumbered-one d.accepted v.loads_before is v.is;
              saved = saved-text next _ v.next_is saved;
              loads = v.loads;
            }
      ]

  tells : EndView c (carry_inputs c t) → AsksForNumbers c → c.status ≡ 0 → TellsNext c t
  tells (view.six is) asks zero = absurd (omega (arith, is, zero))
  tells (view.seven is kept) asks zero = absurd (omega (arith, is, zero))
  tells (view.whole out next due printed saved) (file, snapshot, asks) zero =
      let d = done-view due (inl zero) (numbers file snapshot) asks in
      elim (numbers-view d.due.0) [
        | inl missed ↦ absurd (undone-done c.status (missed-undone c.status missed) (inl zero))
        | inr v ↦
            record {
              a = d.a;
              accepted = d.is;
              ledger = v.ledger;
              loads = v.loads;
              told = out;
              tells = v.tells;
              printed = printed;
            }
      ]

  -- where nothing was done no next snapshot was written
  kept-none : (next : Option (List ℕ)) → next ≡ None → c.new.after ≡ with_text c.new.before next
      → c.new.after ≡ c.new.before
  kept-none next is saved = subst (λ (n : Option (List ℕ)). c.new.after ≡ with_text c.new.before n) is saved

  leaves-new : EndView c (carry_inputs c t) → ¬ (IsDone c.status) → c.status ≢ 6 → c.new.after ≡ c.new.before
  leaves-new (view.six is) undone six = absurd (six is)
  leaves-new (view.seven is kept) undone six = kept
  leaves-new (view.whole out next due printed saved) undone six = elim (words-view due) [
    | view.undone none is ↦ kept-none next is saved
    | view.done task a asks is accepted due2 ↦
        elim (due-view a (carry_inputs c t).snapshot (carry_inputs c t).script task c.status out next due2) [
          | inl missed ↦ kept-none next missed.1 saved
          | inr done ↦ absurd (undone done.0)
        ]
  ]

pub ended-claims : (c : CarryCall) (t : CarryTexts) → CarryEndsOn c t → CarryClaims c
ended-claims c t ends =
    let seen = end-view c t ends in
    record {
      one_task = one-task c.words;
      texts = t;
      ends = ends;
      carries_on = carries c t seen;
      renumbers = renumbers c t seen;
      tells = tells c t seen;
      leaves_new = leaves-new c t seen;
      determined = λ d other same. calls-alike c d t ends other same;
    }
