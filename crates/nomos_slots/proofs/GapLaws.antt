-- Slots stay in order where gaps are closed, what holds of all their numbers stays so, and what stands under a number
-- stays.
use Rattle.std.proofs.Common.{◌≡◌, zero, suc, ℕ, cond, List, [], ◌∷◌, All, filter, Option, Some, None, refl, sym, ap, subst, ◌∙◌, false, inl, inr, eqb, eq-eqb, ne_eqb}
use Rattle.std.specs.Option.{is_some}
use Rattle.std.proofs.lemmas.Bool.{cases_eq, cond_both}
use Rattle.std.proofs.lemmas.List.Elements.{All-cons, All-head, All-nil, All-tail}
use Rattle.nomos_slots.specs.Numbers.{close_gaps, found, numbers, IsAscending}
use Rattle.nomos_slots.specs.declared.numbered.Slot.{Slot}
use Rattle.nomos_slots.proofs.NumberLaws.{AllOver, ascending-nil, ascending-cons, ascending-head, ascending-tail, found-over}

module _ {X : Type 0} where
  -- the slots with an item
  abbrev pub filled : List (Slot X) → List (Slot X)
  filled slots = filter (λ s. is_some s.item) slots

  -- ---- the order

  over-filled : (least : ℕ) (slots : List (Slot X)) → AllOver least slots → AllOver least (filled slots)
  over-filled least [] over = tt
  over-filled least (e ∷ slots) over =
      let rest = over-filled least slots over.1 in
      cond_both (is_some e.item) (e ∷ filled slots) (filled slots) (AllOver least)
      (λ _. (over.0, rest)) (λ _. rest)

  ascending-filled : (slots : List (Slot X)) → IsAscending slots → IsAscending (filled slots)
  ascending-filled [] order = ascending-nil X
  ascending-filled (e ∷ slots) order =
      let rest = ascending-filled slots (ascending-tail e slots order) in
      cond_both (is_some e.item) (e ∷ filled slots) (filled slots) IsAscending
      (λ _. ascending-cons e (filled slots) (over-filled e.number slots (ascending-head e slots order)) rest)
      (λ _. rest)

  over-close : (least from : ℕ) (slots : List (Slot X)) → AllOver least slots → AllOver least (close_gaps from slots)
  over-close least zero slots over = over-filled least slots over
  over-close least (suc from) [] over = tt
  over-close least (suc from) (e ∷ slots) over = (over.0, over-close least from slots over.1)

  pub ascending-close : (from : ℕ) (slots : List (Slot X)) → IsAscending slots → IsAscending (close_gaps from slots)
  ascending-close zero slots order = ascending-filled slots order
  ascending-close (suc from) [] order = ascending-nil X
  ascending-close (suc from) (e ∷ slots) order =
      ascending-cons e (close_gaps from slots)
      (over-close e.number from slots (ascending-head e slots order))
      (ascending-close from slots (ascending-tail e slots order))

  -- ---- what stands under a number

  none-item : (o : Option X) → is_some o ≡ false → o ≡ None
  none-item None h = refl
  none-item (Some x) h = cc

  found-filled : (slots : List (Slot X)) (number : ℕ) → IsAscending slots
      → found (filled slots) number ≡ found slots number
  found-filled [] number order = refl
  found-filled (e ∷ slots) number order =
      let rest = found-filled slots number (ascending-tail e slots order) in
      cond_both (is_some e.item) (e ∷ filled slots) (filled slots) (λ xs. found xs number ≡ found (e ∷ slots) number)
      (λ _. ap (cond (eqb e.number number) e.item) rest)
      (λ gap. elim (cases_eq e.number number) [
        | inl same ↦
            let over : AllOver number slots =
            subst (λ n. AllOver n slots) same (ascending-head e slots order) in
            rest
            ∙ found-over slots number over
            ∙ sym (none-item e.item gap)
            ∙ sym (ap (λ b. cond b e.item (found slots number)) (eq-eqb e.number number same))
        | inr apart ↦
            rest ∙ sym (ap (λ b. cond b e.item (found slots number)) (ne_eqb e.number number apart))
      ])

  pub found-close : (from : ℕ) (slots : List (Slot X)) (number : ℕ) → IsAscending slots
      → found (close_gaps from slots) number ≡ found slots number
  found-close zero slots number order = found-filled slots number order
  found-close (suc from) [] number order = refl
  found-close (suc from) (e ∷ slots) number order =
      ap (cond (eqb e.number number) e.item) (found-close from slots number (ascending-tail e slots order))

-- ---- the numbers of slots

module _ {X : Type 0} (P : ℕ → Type 0) where
  all-filled : (slots : List (Slot X)) → All P (numbers slots) → All P (numbers (filled slots))
  all-filled [] all = All-nil P
  all-filled (s ∷ slots) all =
      let rest = all-filled slots (All-tail P s.number (numbers slots) all) in
      cond_both (is_some s.item) (s ∷ filled slots) (filled slots) (λ (xs : List (Slot X)). All P (numbers xs))
      (λ _. All-cons P s.number (numbers (filled slots)) (All-head P s.number (numbers slots) all) rest)
      (λ _. rest)

  pub all-closed : (from : ℕ) (slots : List (Slot X)) → All P (numbers slots) → All P (numbers (close_gaps from slots))
  all-closed zero slots all = all-filled slots all
  all-closed (suc from) [] all = All-nil P
  all-closed (suc from) (s ∷ slots) all =
      All-cons P s.number (numbers (close_gaps from slots)) (All-head P s.number (numbers slots) all)
      (all-closed from slots (All-tail P s.number (numbers slots) all))
