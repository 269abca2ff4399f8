-- How what is marked stays, and with it what a shelf keeps, where one row is changed.
use Rattle.std.proofs.Common.{◌≡◌, ◌<◌, ◌≤◌, ◌+◌, ◌⊎◌, ℕ, true, false, List, [], ◌∷◌, ◌++◌, Option, Some, None, IfSome, length, get_or, set, take, All, refl, sym, subst, ap, ◌∙◌, inl, inr, arith, slice_index}
use Rattle.std.specs.Global.{Vec}
use Rattle.std.specs.List.{insert, remove}
use Rattle.std.specs.Option.{option_map}
use Rattle.std.proofs.Math.Seq.{map-set_same, take-set-lt}
use Rattle.std.proofs.lemmas.Bool.{both_ways, cases_eq, cases_lt, or_left, or_right}
use Rattle.std.proofs.lemmas.List.{map-set, get_or-map, get_or-take, get_or-set_same, get_or-set_other, get_or_past, length-map, length-set, length-take, length-take-le, set-set, set-get_or, take-map, take-set-le, take-take, take_all}
use Rattle.std.proofs.lemmas.List.Elements.{All-push}
use Rattle.nomos_slots.specs.Log.{mark_len, spare_of}
use Rattle.nomos_slots.specs.Rows.{IsFree, IsShelf, covers, flags_of, has_all, is_freed, place_of, rows_of, shelving_of, spares_of, undo, undone}
use Rattle.nomos_slots.specs.declared.shelf.ShelfRow.{ShelfRow}
use Rattle.nomos_slots.specs.declared.shelf.ShelfStep.{ShelfStep}
use Rattle.nomos_slots.specs.declared.shelf.ShelfStep.TheVariants as step
use Rattle.nomos_slots.proofs.RowLemmas.{covers-push, is_freed-read, is_freed-set_at, is_freed-set_other, is_freed-set_same, length-undo, remove-insert, rows-set, undo-covered, undo-push}

module _ {X : Type 0} where
  -- what is marked, by the parts
  abbrev pub marked_in : List (ShelfRow X) → List (ShelfStep X) → Option ℕ → Option (List (List X))
  marked_in rows log marked = option_map (λ len. undo log (take len (rows_of rows))) marked

  -- nothing of the row has to be put back, by the parts
  abbrev pub IsFreeIn : List (ShelfRow X) → Option ℕ → ℕ → Type 0
  IsFreeIn rows marked place = (mark_len marked ≤ place) ⊎ (is_freed rows place ≡ true)

  length-marked : (rows : List (ShelfRow X)) (log : List (ShelfStep X)) (n : ℕ) → n ≤ length rows
      → length (undo log (take n (rows_of rows))) ≡ n
  length-marked rows log n within =
      let l : n ≤ length (rows_of rows) = rw length-map within in
      length-undo log (take n (rows_of rows)) ∙ length-take-le n (rows_of rows) l

  pub late-seen : (rows : List (ShelfRow X)) (log : List (ShelfStep X)) (marked : Option ℕ) (place : ℕ)
      → mark_len marked ≤ length rows
      → mark_len marked ≤ place → IfSome (marked_in rows log marked) (λ rs. length rs ≤ place)
  late-seen rows log None place within late = tt
  late-seen rows log (Some n) place within late = omega (arith, length-marked rows log n within)

  pub late-from_seen : (rows : List (ShelfRow X)) (log : List (ShelfStep X)) (marked : Option ℕ) (place : ℕ)
      → mark_len marked ≤ length rows
      → IfSome (marked_in rows log marked) (λ rs. length rs ≤ place) → mark_len marked ≤ place
  late-from_seen rows log None place within late = omega arith
  late-from_seen rows log (Some n) place within late = omega (arith, length-marked rows log n within)

  pub free-seen : (rows : Vec (ShelfRow X)) (log : Vec (ShelfStep X)) (marked : Option ℕ) (place : ℕ)
      → mark_len marked ≤ length rows.items → IsFreeIn rows.items marked place
      → IsFree (shelving_of rows log marked) place
  free-seen rows log marked place within free =
      elim free [
        | inl late ↦ inl (late-seen rows.items log.items marked place within late)
        | inr freed ↦ inr freed
      ]

  pub free-from_seen : (rows : Vec (ShelfRow X)) (log : Vec (ShelfStep X)) (marked : Option ℕ) (place : ℕ)
      → mark_len marked ≤ length rows.items → IsFree (shelving_of rows log marked) place
      → IsFreeIn rows.items marked place
  free-from_seen rows log marked place within free =
      elim free [
        | inl late ↦ inl (late-from_seen rows.items log.items marked place within late)
        | inr freed ↦ inr freed
      ]

  -- ---- a change that is not logged

  -- of a row that says the same
  pub shelf-same : (rows : List (ShelfRow X)) (log : List (ShelfStep X)) (marked : Option ℕ) (at : ℕ)
      (old r : ShelfRow X)
      → IsShelf rows log marked → at < length rows → old ≡ get_or rows at old → r.freed ≡ old.freed
      → IsShelf (set rows at r) log marked
  shelf-same rows log marked at old r sound within read same = record {
    within = omega (arith, sound.within, length-set rows at r);
    below = sound.below;
    covered = λ place freed.
        sound.covered place (sym (is_freed-set_same rows at place r old within read same) ∙ freed);
  }

  -- of a free row
  pub marked-free : (rows : List (ShelfRow X)) (log : List (ShelfStep X)) (marked : Option ℕ) (at : ℕ) (r : ShelfRow X)
      → IsShelf rows log marked → at < length rows → IsFreeIn rows marked at
      → marked_in (set rows at r) log marked ≡ marked_in rows log marked
  marked-free rows log None at r sound within free = refl
  marked-free rows log (Some n) at r sound within free =
      ap (λ rs. Some (undo log (take n rs))) (rows-set rows at r)
      ∙ ap Some (elim (cases_lt at n) [
        | inl l ↦
            ap (undo log) (take-set-lt n (rows_of rows) at r.items.items l)
            ∙ elim free [
              | inl late ↦ absurd (omega arith)
              | inr freed ↦
                  let few : at < length (take n (rows_of rows)) =
                  omega (arith, length-take n (rows_of rows), length-map rows (λ (r : ShelfRow X). r.items.items)) in
                  undo-covered log (take n (rows_of rows)) at r.items.items few (sound.covered at freed)
            ]
        | inr past ↦ ap (undo log) (take-set-le n (rows_of rows) at r.items.items past)
      ])

  -- where its items are what they were, of any row
  pub marked-same : (rows : List (ShelfRow X)) (log : List (ShelfStep X)) (marked : Option ℕ) (at : ℕ)
      (old r : ShelfRow X)
      → old ≡ get_or rows at old → r.items.items ≡ old.items.items
      → marked_in (set rows at r) log marked ≡ marked_in rows log marked
  marked-same rows log marked at old r read same =
      ap (λ (rs : List (List X)). option_map (λ len. undo log (take len rs)) marked)
      (map-set_same (λ (r : ShelfRow X). r.items.items) rows at r old
      (same ∙ ap (λ (r : ShelfRow X). r.items.items) read))

  -- ---- a change that is logged

  pub shelf-logged : (rows : List (ShelfRow X)) (log new : List (ShelfStep X)) (marked : Option ℕ) (at : ℕ)
      (e : ShelfStep X)
      (old r : ShelfRow X)
      → IsShelf rows log marked → at < length rows → old ≡ get_or rows at old → at < mark_len marked
      → new ≡ log ++ e ∷ [] → place_of e ≡ at → (r.freed ≡ old.freed) ⊎ (has_all at e ≡ true)
      → IsShelf (set rows at r) new marked
  shelf-logged rows log new marked at e old r sound within read below is here kept =
      rw is (record {
        within = omega (arith, sound.within, length-set rows at r);
        below = All-push (λ s. place_of s < mark_len marked) log e sound.below (omega arith);
        covered = λ place freed.
            covers-push log e place ∙ elim (cases_eq place at) [
              | inl same ↦
                  elim kept [
                    | inl flag ↦
                        or_left (covers log place) _
                        (sound.covered place (sym (is_freed-set_same rows at place r old within read flag) ∙ freed))
                    | inr all ↦
                        or_right (covers log place) _ (or_left _ _ (ap (λ k. has_all k e) same ∙ all))
                  ]
              | inr apart ↦
                  or_left (covers log place) _
                  (sound.covered place (sym (is_freed-set_other rows at place r apart) ∙ freed))
            ];
      })

  pub marked-logged : (rows : List (ShelfRow X)) (log new : List (ShelfStep X)) (n at : ℕ) (e : ShelfStep X)
      (r : ShelfRow X)
      → at < n → n ≤ length rows → new ≡ log ++ e ∷ []
      → ((rs : List (List X)) → at < length rs → get_or rs at [] ≡ get_or (rows_of rows) at []
      → undone e (set rs at r.items.items) ≡ rs)
      → undo new (take n (rows_of (set rows at r))) ≡ undo log (take n (rows_of rows))
  marked-logged rows log new n at e r below fits is back =
      ap (λ some. undo some (take n (rows_of (set rows at r)))) is
      ∙ ap (λ rs. undo (log ++ e ∷ []) (take n rs)) (rows-set rows at r)
      ∙ ap (undo (log ++ e ∷ [])) (take-set-lt n (rows_of rows) at r.items.items below)
      ∙ undo-push log e (set (take n (rows_of rows)) at r.items.items)
      ∙ ap (undo log) (back (take n (rows_of rows))
      (omega (arith, length-take n (rows_of rows), length-map rows (λ (r : ShelfRow X). r.items.items)))
      (get_or-take n (rows_of rows) at [] below))

  pub marked-logged_any : (rows : List (ShelfRow X)) (log new : List (ShelfStep X)) (marked : Option ℕ) (at : ℕ)
      (e : ShelfStep X)
      (r : ShelfRow X)
      → at < mark_len marked → mark_len marked ≤ length rows → new ≡ log ++ e ∷ []
      → ((rs : List (List X)) → at < length rs → get_or rs at [] ≡ get_or (rows_of rows) at []
      → undone e (set rs at r.items.items) ≡ rs)
      → marked_in (set rows at r) new marked ≡ marked_in rows log marked
  marked-logged_any rows log new None at e r below fits is back = absurd (omega arith)
  marked-logged_any rows log new (Some n) at e r below fits is back =
      ap Some (marked-logged rows log new n at e r below fits is back)

  -- the row that was replaced comes back
  pub back-replaced : (rs : List (List X)) (at : ℕ) (now : List X) (old : Vec X) → get_or rs at [] ≡ old.items
      → undone (step.Replaced at old) (set rs at now) ≡ rs
  back-replaced rs at now old was =
      set-set rs at now old.items ∙ ap (set rs at) (sym was) ∙ set-get_or rs at []

  -- the item that came is taken out
  pub back-added : (rs : List (List X)) (at i : ℕ) (x : X) (was : List X) → get_or rs at [] ≡ was → at < length rs
      → i ≤ length was → undone (step.Added at i) (set rs at (insert was i x)) ≡ rs
  back-added rs at i x was is within le =
      ap (λ xs. set (set rs at (insert was i x)) at (remove xs i)) (get_or-set_same rs at (insert was i x) [] within)
      ∙ set-set rs at (insert was i x) (remove (insert was i x) i)
      ∙ ap (set rs at) (remove-insert was i x le ∙ sym is) ∙ set-get_or rs at []

  -- ---- room in rows

  pub spares-more : (rows : List (ShelfRow X)) (at more other : ℕ) (old r : ShelfRow X) → at < length rows
      → old ≡ get_or rows at old
      → spare_of old.items ≤ spare_of r.items + more
      → slice_index (spares_of rows) other ≤ slice_index (spares_of (set rows at r)) other + more
  spares-more rows at more other old r within read le =
      let all : spares_of (set rows at r) ≡ set (spares_of rows) at (spare_of r.items) =
      map-set (λ (r : ShelfRow X). spare_of r.items) rows at r in
      let l : at < length (spares_of rows) = rw length-map within in
      elim (cases_eq other at) [
        | inl same ↦
            let here : slice_index (spares_of (set rows at r)) other ≡ spare_of r.items =
            ap (λ ns. slice_index ns other) all ∙ ap (λ k. slice_index (set (spares_of rows) at (spare_of r.items)) k)
            same
            ∙ get_or-set_same (spares_of rows) at (spare_of r.items) 0 l in
            let was : slice_index (spares_of rows) other ≡ spare_of old.items =
            ap (λ k. slice_index (spares_of rows) k) same
            ∙ get_or-map (λ (r : ShelfRow X). spare_of r.items) rows at old 0 within
            ∙ ap (λ (r : ShelfRow X). spare_of r.items) (sym read) in
            omega arith
        | inr apart ↦
            let there : slice_index (spares_of (set rows at r)) other ≡ slice_index (spares_of rows) other =
            ap (λ ns. slice_index ns other) all ∙ get_or-set_other (spares_of rows) at other (spare_of r.items) 0
            apart in
            omega arith
      ]

  pub spares-at : (rows : List (ShelfRow X)) (at : ℕ) (r : ShelfRow X) → at < length rows
      → slice_index (spares_of (set rows at r)) at ≡ spare_of r.items
  spares-at rows at r within =
      let l : at < length (spares_of rows) = rw length-map within in
      ap (λ ns. slice_index ns at) (map-set (λ (r : ShelfRow X). spare_of r.items) rows at r)
      ∙ get_or-set_same (spares_of rows) at (spare_of r.items) 0 l

  -- ---- the mark itself

  pub marked-whole : (rows : List (ShelfRow X)) (log : List (ShelfStep X)) (n : ℕ) → log ≡ [] → n ≡ length rows
      → undo log (take n (rows_of rows)) ≡ rows_of rows
  marked-whole rows log n none is =
      let all : length (rows_of rows) ≤ n = omega (arith, is, length-map rows (λ (r : ShelfRow X). r.items.items)) in
      ap (λ some. undo some (take n (rows_of rows))) none ∙ take_all n (rows_of rows) all

  pub none_from_marked : (rows : List (ShelfRow X)) (log : List (ShelfStep X)) (marked : Option ℕ)
      → marked_in rows log marked ≡ None → marked ≡ None
  none_from_marked rows log None h = refl
  none_from_marked rows log (Some n) h = cc

  nil_from_below : (log : List (ShelfStep X)) → All (λ s. place_of s < 0) log → log ≡ []
  nil_from_below [] below = refl
  nil_from_below (s ∷ log) below = let h : place_of s < 0 = below 0 s (omega arith) in absurd (omega arith)

  pub nil-unmarked : (rows : List (ShelfRow X)) (log : List (ShelfStep X)) (marked : Option ℕ)
      → IsShelf rows log marked → marked ≡ None → log ≡ []
  nil-unmarked rows log marked sound none =
      nil_from_below log (subst (λ m. All (λ s. place_of s < mark_len m) log) none sound.below)

  -- ---- the last rows go

  pub is_freed-take : (rows : List (ShelfRow X)) (n place : ℕ) → is_freed (take n rows) place ≡ true
      → is_freed rows place ≡ true
  is_freed-take rows n place freed =
      let cut : flags_of (take n rows) ≡ take n (flags_of rows) = sym (take-map (λ (r : ShelfRow X). r.freed) n rows) in
      elim (cases_lt place n) [
        | inl l ↦
            sym (get_or-take n (flags_of rows) place false l) ∙ sym (ap (λ fs. get_or fs place false) cut) ∙ freed
        | inr past ↦
            absurd (both_ways _ (get_or_past (take n (flags_of rows)) place false
            (omega (arith, length-take n (flags_of rows))))
            (sym (ap (λ fs. get_or fs place false) cut) ∙ freed))
      ]

  pub shelf-cut : (rows new : List (ShelfRow X)) (log : List (ShelfStep X)) (marked : Option ℕ) (n : ℕ)
      → IsShelf rows log marked → mark_len marked ≤ n → new ≡ take n rows → IsShelf new log marked
  shelf-cut rows new log marked n sound past is =
      rw is (record {
        within = omega (arith, sound.within, length-take n rows);
        below = sound.below;
        covered = λ place freed. sound.covered place (is_freed-take rows n place freed);
      })

  pub rows-cut : (rows new : List (ShelfRow X)) (n : ℕ) → new ≡ take n rows → rows_of new ≡ take n (rows_of rows)
  rows-cut rows new n is = ap rows_of is ∙ sym (take-map (λ (r : ShelfRow X). r.items.items) n rows)

  pub marked-cut : (rows new : List (ShelfRow X)) (log : List (ShelfStep X)) (marked : Option ℕ) (n : ℕ)
      → mark_len marked ≤ n → new ≡ take n rows → marked_in new log marked ≡ marked_in rows log marked
  marked-cut rows new log None n past is = refl
  marked-cut rows new log (Some m) n past is =
      ap (λ rs. Some (undo log (take m rs))) (rows-cut rows new n is)
      ∙ ap (λ rs. Some (undo log rs)) (take-take m n (rows_of rows) past)

  -- ---- what is free stays so

  -- the same as `IsFree` of what is seen, by the lists
  abbrev pub IsSeenFree : List (ShelfRow X) → List (ShelfStep X) → Option ℕ → ℕ → Type 0
  IsSeenFree rows log marked place = IfSome (marked_in rows log marked) (λ rs. length rs ≤ place)
      ⊎ (is_freed rows place ≡ true)

  pub free-kept : (rows : Vec (ShelfRow X)) (log : Vec (ShelfStep X)) (again : List (ShelfStep X)) (marked : Option ℕ)
      (at other : ℕ)
      (old r : ShelfRow X)
      → mark_len marked ≤ length rows.items → at < length rows.items → old ≡ get_or rows.items at old
      → (old.freed ≡ true → r.freed ≡ true)
      → IsFree (shelving_of rows log marked) other → IsSeenFree (set rows.items at r) again marked other
  free-kept rows log again marked at other old r marks within read keeps free =
      let fits : mark_len marked ≤ length (set rows.items at r) = omega (arith, length-set rows.items at r) in
      elim (free-from_seen rows log marked other marks free) [
        | inl late ↦ inl (late-seen (set rows.items at r) again marked other fits late)
        | inr freed ↦
            inr (elim (cases_eq other at) [
              | inl same ↦
                  ap (is_freed (set rows.items at r)) same ∙ is_freed-set_at rows.items at r within
                  ∙ keeps (sym (is_freed-read rows.items at old within read) ∙ ap (is_freed rows.items) (sym same)
                  ∙ freed)
              | inr apart ↦ is_freed-set_other rows.items at other r apart ∙ freed
            ])
      ]

  pub below-not_free : (rows : Vec (ShelfRow X)) (log : Vec (ShelfStep X)) (marked : Option ℕ) (at : ℕ)
      → mark_len marked ≤ length rows.items → ¬ IsFree (shelving_of rows log marked) at → at < mark_len marked
  below-not_free rows log marked at marks not =
      elim (cases_lt at (mark_len marked)) [
        | inl l ↦ l
        | inr late ↦ absurd (not (free-seen rows log marked at marks (inl late)))
      ]

  pub spares-set : (rows : List (ShelfRow X)) (at : ℕ) (r : ShelfRow X)
      → spares_of (set rows at r) ≡ set (spares_of rows) at
      (spare_of r.items)
  spares-set rows at r = map-set (λ (r : ShelfRow X). spare_of r.items) rows at r
