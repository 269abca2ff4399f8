-- The rows of a shelf where one is changed, and where the log is undone.
use Rattle.std.proofs.Common.{◌≡◌, ◌<◌, ◌≤◌, ◌+◌, ◌||◌, zero, suc, ℕ, true, false, eqb, List, [], ◌∷◌, ◌++◌, length, get_or, set, drop, refl, sym, ap, ◌∙◌, inl, inr, arith}
use Rattle.std.specs.List.{insert, remove}
use Rattle.std.proofs.lemmas.Bool.{cases_eq, eqb-true, ne_eqb, both_ways, false_from_ne_true, false≢true}
use Rattle.std.proofs.lemmas.List.{map-set, at_drop_more, get_or-map, get_or-set_same, get_or-set_other, set-set, set_comm, length-map, length-set}
use Rattle.std.proofs.lemmas.List.Folds.{list_any-append}
use Rattle.std.proofs.Math.ListN.{drop_of_length-le}
use Rattle.nomos_slots.proofs.CellLemmas.{true_or_false}
use Rattle.nomos_slots.proofs.LogLemmas.{or_false}
use Rattle.nomos_slots.specs.Rows.{IsCovered, covers, flags_of, has_all, is_freed, place_of, rows_of, undo, undone}
use Rattle.nomos_slots.specs.declared.shelf.ShelfRow.{ShelfRow}
use Rattle.nomos_slots.specs.declared.shelf.ShelfStep.{ShelfStep}
use Rattle.nomos_slots.specs.declared.shelf.ShelfStep.TheVariants as step

module _ {X : Type 0} where
  -- ---- one row is changed

  pub rows-set : (rows : List (ShelfRow X)) (at : ℕ) (r : ShelfRow X)
      → rows_of (set rows at r) ≡ set (rows_of rows) at r.items.items
  rows-set rows at r = map-set (λ (r : ShelfRow X). r.items.items) rows at r

  pub row-read : (rows : List (ShelfRow X)) (at : ℕ) (r : ShelfRow X) → at < length rows → r ≡ get_or rows at r
      → get_or (rows_of rows) at [] ≡ r.items.items
  row-read rows at r l read =
      get_or-map (λ (r : ShelfRow X). r.items.items) rows at r [] l ∙ ap (λ (r : ShelfRow X). r.items.items) (sym read)

  pub is_freed-read : (rows : List (ShelfRow X)) (at : ℕ) (r : ShelfRow X) → at < length rows → r ≡ get_or rows at r
      → is_freed rows at ≡ r.freed
  is_freed-read rows at r l read =
      get_or-map (λ (r : ShelfRow X). r.freed) rows at r false l ∙ ap (λ (r : ShelfRow X). r.freed) (sym read)

  flags-set : (rows : List (ShelfRow X)) (at : ℕ) (r : ShelfRow X)
      → flags_of (set rows at r) ≡ set (flags_of rows) at r.freed
  flags-set rows at r = map-set (λ (r : ShelfRow X). r.freed) rows at r

  pub is_freed-set_at : (rows : List (ShelfRow X)) (at : ℕ) (r : ShelfRow X) → at < length rows
      → is_freed (set rows at r) at ≡ r.freed
  is_freed-set_at rows at r within =
      let l : at < length (flags_of rows) = rw length-map within in
      ap (λ fs. get_or fs at false) (flags-set rows at r) ∙ get_or-set_same (flags_of rows) at r.freed false l

  pub is_freed-set_other : (rows : List (ShelfRow X)) (at place : ℕ) (r : ShelfRow X) → (place ≡ at → ⊥)
      → is_freed (set rows at r) place ≡ is_freed rows place
  is_freed-set_other rows at place r ne =
      ap (λ fs. get_or fs place false) (flags-set rows at r) ∙ get_or-set_other (flags_of rows) at place r.freed false
      ne

  -- a row with the same flag
  pub is_freed-set_same : (rows : List (ShelfRow X)) (at place : ℕ) (r s : ShelfRow X) → at < length rows
      → s ≡ get_or rows at s
      → r.freed ≡ s.freed → is_freed (set rows at r) place ≡ is_freed rows place
  is_freed-set_same rows at place r s within read same =
      elim (cases_eq place at) [
        | inl e ↦
            ap (is_freed (set rows at r)) e ∙ is_freed-set_at rows at r within ∙ same
            ∙ sym (is_freed-read rows at s within read) ∙ ap (is_freed rows) (sym e)
        | inr ne ↦ is_freed-set_other rows at place r ne
      ]

  -- a row that is put back is not freed
  pub freed-replaced : (rows : List (ShelfRow X)) (at place : ℕ) (r : ShelfRow X) (e : ShelfStep X) → at < length rows
      → r.freed ≡ false
      → is_freed (set rows at r) place ≡ true → has_all place e ≡ eqb at place
      → (is_freed rows place ≡ true) × (has_all place e ≡ false)
  freed-replaced rows at place r e within is freed of =
      elim (cases_eq place at) [
        | inl same ↦
            absurd (both_ways _ (is_freed-set_at rows at r within ∙ is) (ap (is_freed (set rows at r)) (sym same)
            ∙ freed))
        | inr apart ↦ (
          sym (is_freed-set_other rows at place r apart) ∙ freed,
          of ∙ ne_eqb at place (λ e. apart (sym e)),
        )
      ]

  -- ---- the log is undone

  pub undo-push : (log : List (ShelfStep X)) (e : ShelfStep X) (rows : List (List X))
      → undo (log ++ e ∷ []) rows ≡ undo log (undone e rows)
  undo-push [] e rows = refl
  undo-push (s ∷ log) e rows = ap (undone s) (undo-push log e rows)

  length-undone : (e : ShelfStep X) (rows : List (List X)) → length (undone e rows) ≡ length rows
  length-undone (step.Added place at) rows = length-set rows place _
  length-undone (step.Replaced place row) rows = length-set rows place row.items

  pub length-undo : (log : List (ShelfStep X)) (rows : List (List X)) → length (undo log rows) ≡ length rows
  length-undo [] rows = refl
  length-undo (s ∷ log) rows = length-undone s (undo log rows) ∙ length-undo log rows

  -- one row is another before a step, where it is another after it
  undone-other : (e : ShelfStep X) (rows : List (List X)) (p : ℕ) (y : List X) → p < length rows
      → (z : List X) × (undone e (set rows p y) ≡ set (undone e rows) p z)
  undone-other (step.Added q at) rows p y within =
      elim (cases_eq q p) [
        | inl same ↦
            let z = remove (get_or (set rows p y) p []) at in (
              z,
              ap (λ k. set (set rows p y) k (remove (get_or (set rows p y) k []) at)) same
                  ∙ set-set rows p y z
                  ∙ sym (set-set rows p (remove (get_or rows p []) at) z)
                  ∙ ap (λ k. set (set rows k (remove (get_or rows k []) at)) p z) (sym same),
            )
        | inr apart ↦ (
          y,
          ap (λ xs. set (set rows p y) q (remove xs at)) (get_or-set_other rows p q y [] apart)
              ∙ set_comm rows p q y (remove (get_or rows q []) at) (λ e. apart (sym e)),
        )
      ]
  undone-other (step.Replaced q row) rows p y within =
      elim (cases_eq q p) [
        | inl same ↦ (
          row.items,
          ap (λ k. set (set rows p y) k row.items) same
              ∙ set-set rows p y row.items
              ∙ sym (set-set rows p row.items row.items)
              ∙ ap (λ k. set (set rows k row.items) p row.items) (sym same),
        )
        | inr apart ↦ (y, set_comm rows p q y row.items (λ e. apart (sym e)))
      ]

  undo-other : (log : List (ShelfStep X)) (rows : List (List X)) (p : ℕ) (x : List X) → p < length rows
      → (z : List X) × (undo log (set rows p x) ≡ set (undo log rows) p z)
  undo-other [] rows p x within = (x, refl)
  undo-other (s ∷ log) rows p x within =
      let (y, before) = undo-other log rows p x within in
      let l : p < length (undo log rows) = omega (arith, length-undo log rows) in
      let (z, then) = undone-other s (undo log rows) p y l in
      (z, ap (undone s) before ∙ then)

  undone-covered : (e : ShelfStep X) (rows : List (List X)) (p : ℕ) (y : List X) → has_all p e ≡ true
      → undone e (set rows p y) ≡ undone e rows
  undone-covered (step.Added q at) rows p y has = absurd (false≢true has)
  undone-covered (step.Replaced q row) rows p y has =
      ap (λ k. set (set rows k y) q row.items) (sym (eqb-true q p has)) ∙ set-set rows q y row.items

  -- what stands meanwhile at a place that the log covers does not matter
  pub undo-covered : (log : List (ShelfStep X)) (rows : List (List X)) (p : ℕ) (x : List X) → p < length rows
      → covers log p ≡ true → undo log (set rows p x) ≡ undo log rows
  undo-covered [] rows p x within has = absurd (false≢true has)
  undo-covered (s ∷ log) rows p x within has =
      elim (true_or_false (covers log p)) [
        | inl rest ↦ ap (undone s) (undo-covered log rows p x within rest)
        | inr rest ↦
            let (y, before) = undo-other log rows p x within in
            let here : has_all p s ≡ true =
            sym (or_false (has_all p s)) ∙ sym (ap (λ b. has_all p s || b) rest) ∙ has in
            ap (undone s) before ∙ undone-covered s (undo log rows) p y here
      ]

  -- ---- the rows that are covered

  pub covers-push : (log : List (ShelfStep X)) (e : ShelfStep X) (place : ℕ)
      → covers (log ++ e ∷ []) place ≡ (covers log place || (has_all place e || false))
  covers-push log e place = list_any-append (has_all place) log (e ∷ [])

  has_all-other : (e : ShelfStep X) (q : ℕ) → (q ≡ place_of e → ⊥) → has_all q e ≡ false
  has_all-other (step.Added p at) q apart = refl
  has_all-other (step.Replaced p row) q apart = ne_eqb p q (λ e. apart (sym e))

  -- one step less is in the log, and its row is freed no longer
  pub covered-more : (rows : List (ShelfRow X)) (log : List (ShelfStep X)) (i : ℕ) (e : ShelfStep X) (r : ShelfRow X)
      → i < length log → e ≡ get_or log i e → place_of e < length rows → r.freed ≡ false
      → IsCovered rows (drop i log) → IsCovered (set rows (place_of e) r) (drop (i + 1) log)
  covered-more rows log i e r l at within is old q freed =
      elim (cases_eq q (place_of e)) [
        | inl same ↦
            absurd (both_ways _ (is_freed-set_at rows (place_of e) r within ∙ is)
            (ap (is_freed (set rows (place_of e) r)) (sym same) ∙ freed))
        | inr apart ↦
            let rest = covers (drop (i + 1) log) q in
            let was : covers (drop i log) q ≡ true =
            old q (sym (is_freed-set_other rows (place_of e) q r apart) ∙ freed) in
            let split : covers (drop i log) q ≡ (has_all q e || rest) =
            at_drop_more (λ some. covers some q) log i e l ∙ ap (λ (s : ShelfStep X). has_all q s || rest) (sym at) in
            sym (ap (λ b. b || rest) (has_all-other e q apart)) ∙ sym split ∙ was
      ]

  -- the last step of the log is undone, and its row is freed no longer
  pub covered-popped : (rows after : List (ShelfRow X)) (log rest : List (ShelfStep X)) (e : ShelfStep X)
      → log ≡ rest ++ e ∷ [] → IsCovered rows log
      → ((q : ℕ) → is_freed after q ≡ true → (is_freed rows q ≡ true) × (has_all q e ≡ false)) → IsCovered after rest
  covered-popped rows after log rest e split covered was q freed =
      let (before, other) = was q freed in
      sym (ap (λ b. covers rest q || (b || false)) other ∙ or_false (covers rest q))
      ∙ sym (covers-push rest e q) ∙ ap (λ some. covers some q) (sym split) ∙ covered q before

  pub undo-popped : (log rest : List (ShelfStep X)) (e : ShelfStep X) (rows after : List (List X))
      → log ≡ rest ++ e ∷ [] → after ≡ undone e rows → undo rest after ≡ undo log rows
  undo-popped log rest e rows after split is =
      ap (undo rest) is ∙ sym (undo-push rest e rows) ∙ ap (λ some. undo some rows) (sym split)

  -- where the log is gone over, nothing is freed
  pub none-freed : (rows : List (ShelfRow X)) (log : List (ShelfStep X)) (i : ℕ) → length log ≤ i
      → IsCovered rows (drop i log)
      → (place : ℕ) → is_freed rows place ≡ false
  none-freed rows log i past covered place =
      false_from_ne_true (is_freed rows place)
      (λ freed. absurd (false≢true (sym (ap (λ some. covers some place) (drop_of_length-le log past))
      ∙ covered place freed)))

  -- ---- an item that comes can be taken out again

  pub remove-insert : (xs : List X) (at : ℕ) (x : X) → at ≤ length xs → remove (insert xs at x) at ≡ xs
  remove-insert [] zero x le = refl
  remove-insert [] (suc at) x le = absurd (omega arith)
  remove-insert (y ∷ xs) zero x le = refl
  remove-insert (y ∷ xs) (suc at) x le = ap (λ zs. y ∷ zs) (remove-insert xs at x (omega arith))
