-- How what a column keeps changes, step by step.
use Rattle.std.proofs.Common.{◌≡◌, ◌<◌, ◌≤◌, ◌+◌, ◌||◌, zero, suc, ℕ, Bool, true, false, eqb, List, [], ◌∷◌, ◌++◌, map, length, get_or, set, take, drop, refl, sym, ap, ◌∙◌, inl, inr, arith}
use Rattle.std.proofs.lemmas.Bool.{cases_eq, cases_lt, eqb-false, eq-eqb, ne_eqb, both_ways, or_from, or_left, or_right, or_parts, false≢true}
use Rattle.std.proofs.lemmas.List.{map-set, at_drop_more, get_or-set_same, get_or-set_other, get_or-take, get_or_past, set-set, set_comm, set-get_or, length-map, length-set, length-take, take-map}
use Rattle.std.proofs.lemmas.List.Folds.{list_any-append, list_any_none}
use Rattle.nomos_slots.specs.Log.{is_kept, is_logged, IsBelow, IsKeptAsLogged, IsOnce, put_back, records, unkept}
use Rattle.nomos_slots.specs.declared.column.Logged.{Logged}

pub or_false : (b : Bool) → (b || false) ≡ b
or_false true = refl
or_false false = refl

module _ {X : Type 0} where
  -- ---- the log

  -- what is in the log stands below the mark
  pub not_logged_past : (log : List (ℕ × X)) (n place : ℕ) → IsBelow n log → n ≤ place → is_logged log place ≡ false
  not_logged_past log n place below past =
      list_any_none (λ saved. eqb saved.0 place) log
      (λ k d l. let h : (get_or log k d).0 < n = below k d l in ne_eqb _ _ (λ e. absurd (omega arith)))

  -- below nothing there is nothing
  pub nil_from_below : (log : List (ℕ × X)) → IsBelow 0 log → log ≡ []
  nil_from_below [] below = refl
  nil_from_below (saved ∷ log) below = let h : saved.0 < 0 = below 0 saved (omega arith) in absurd (omega arith)

  is_logged-push : (log : List (ℕ × X)) (at place : ℕ) (x : X)
      → is_logged (log ++ (at, x) ∷ []) place ≡ (is_logged log place || (eqb at place || false))
  is_logged-push log at place x = list_any-append (λ saved. eqb saved.0 place) log ((at, x) ∷ [])

  pub IsOnce-push : (log : List (ℕ × X)) (at : ℕ) (x : X)
      → is_logged log at ≡ false → IsOnce log → IsOnce (log ++ (at, x) ∷ [])
  IsOnce-push [] at x not once = (refl, tt)
  IsOnce-push (saved ∷ log) at x not once =
      let parts = or_parts (eqb saved.0 at) (is_logged log at) not in
      let ne : saved.0 ≡ at → ⊥ = eqb-false saved.0 at parts.0 in
      let apart : eqb at saved.0 ≡ false = ne_eqb at saved.0 (λ e. ne (sym e)) in (
        is_logged-push log at saved.0 x ∙ or_from _ _ once.0 (or_from _ _ apart refl),
        IsOnce-push log at x parts.1 once.1,
      )

  -- ---- putting back

  pub length-put_back : (xs : List X) (log : List (ℕ × X)) → length (put_back xs log) ≡ length xs
  length-put_back xs [] = refl
  length-put_back xs (saved ∷ log) = length-put_back (set xs saved.0 saved.1) log ∙ length-set xs saved.0 saved.1

  -- a record that the log has is put back, whatever stands there meanwhile
  pub put_back_over : (xs : List X) (log : List (ℕ × X)) (at : ℕ) (x : X)
      → is_logged log at ≡ true → put_back (set xs at x) log ≡ put_back xs log
  put_back_over xs [] at x h = absurd (false≢true h)
  put_back_over xs (saved ∷ log) at x h =
      elim (cases_eq saved.0 at) [
        | inl e ↦
            ap (λ p. put_back (set (set xs p x) saved.0 saved.1) log) (sym e)
            ∙ ap (λ ys. put_back ys log) (set-set xs saved.0 x saved.1)
        | inr ne ↦
            let apart : eqb saved.0 at ≡ false = ne_eqb saved.0 at ne in
            let rest : is_logged log at ≡ true = sym (ap (λ b. b || is_logged log at) apart) ∙ h in
            ap (λ ys. put_back ys log) (set_comm xs at saved.0 x saved.1 (λ e. ne (sym e)))
            ∙ put_back_over (set xs saved.0 saved.1) log at x rest
      ]

  -- a record that is logged when it is changed is put back
  pub put_back_first : (xs : List X) (log : List (ℕ × X)) (at : ℕ) (x d : X) → is_logged log at ≡ false
      → put_back (set xs at x) (log ++ (at, get_or xs at d) ∷ []) ≡ put_back xs log
  put_back_first xs [] at x d h = set-set xs at x (get_or xs at d) ∙ set-get_or xs at d
  put_back_first xs (saved ∷ log) at x d h =
      let parts = or_parts (eqb saved.0 at) (is_logged log at) h in
      let ne : at ≡ saved.0 → ⊥ = λ e. eqb-false saved.0 at parts.0 (sym e) in
      let was = get_or xs at d in
      let next = set xs saved.0 saved.1 in
      let same : get_or next at d ≡ was = get_or-set_other xs saved.0 at saved.1 d ne in
      ap (λ ys. put_back ys (log ++ (at, was) ∷ [])) (set_comm xs at saved.0 x saved.1 ne)
      ∙ ap (λ y. put_back (set next at x) (log ++ (at, y) ∷ [])) (sym same)
      ∙ put_back_first next log at x d parts.1

  -- one record of the log is put back
  pub put_back_more : (es : List (Logged X)) (log : List (ℕ × X)) (i : ℕ) (saved : ℕ × X) (e : Logged X)
      → i < length log → saved ≡ get_or log i saved → e.item ≡ saved.1
      → put_back (records (set es saved.0 e)) (drop (i + 1) log) ≡ put_back (records es) (drop i log)
  put_back_more es log i saved e l at is =
      let rest = drop (i + 1) log in
      ap (λ ys. put_back ys rest) (map-set (λ (x : Logged X). x.item) es saved.0 e)
      ∙ ap (λ (y : X). put_back (set (records es) saved.0 y) rest) is
      ∙ ap (λ (s : ℕ × X). put_back (records es) (s ∷ rest)) at
      ∙ sym (at_drop_more (put_back (records es)) log i saved l)

  -- ---- what is kept

  -- for each entry, whether it is kept
  abbrev flags : List (Logged X) → List Bool
  flags es = map (λ e. e.kept) es

  flags-set : (es : List (Logged X)) (at : ℕ) (e : Logged X) → flags (set es at e) ≡ set (flags es) at e.kept
  flags-set es at e = map-set (λ (x : Logged X). x.kept) es at e

  is_kept-set_at : (es : List (Logged X)) (at : ℕ) (e : Logged X) → at < length es → is_kept (set es at e) at ≡ e.kept
  is_kept-set_at es at e within =
      let l : at < length (flags es) = rw length-map within in
      ap (λ ks. get_or ks at false) (flags-set es at e) ∙ get_or-set_same (flags es) at e.kept false l

  is_kept-set_other : (es : List (Logged X)) (at place : ℕ) (e : Logged X) → (place ≡ at → ⊥)
      → is_kept (set es at e) place ≡ is_kept es place
  is_kept-set_other es at place e ne =
      ap (λ ks. get_or ks place false) (flags-set es at e) ∙ get_or-set_other (flags es) at place e.kept false ne

  -- what is kept is still in the log
  abbrev pub IsKeptIn : List (ℕ × X) → List (Logged X) → Type 0
  IsKeptIn log es = (place : ℕ) → is_kept es place ≡ true → is_logged log place ≡ true

  -- one record less is in the log, and is kept
  pub kept_more : (es : List (Logged X)) (log : List (ℕ × X)) (i : ℕ) (saved : ℕ × X) (e : Logged X)
      → i < length log → saved ≡ get_or log i saved → saved.0 < length es → e.kept ≡ false
      → IsKeptIn (drop i log) es → IsKeptIn (drop (i + 1) log) (set es saved.0 e)
  kept_more es log i saved e l at within is old place h =
      let rest = is_logged (drop (i + 1) log) place in
      elim (cases_eq place saved.0) [
        | inl same ↦
            let here : is_kept (set es saved.0 e) saved.0 ≡ true = ap (is_kept (set es saved.0 e)) (sym same) ∙ h in
            absurd (both_ways _ (is_kept-set_at es saved.0 e within ∙ is) here)
        | inr ne ↦
            let was : is_logged (drop i log) place ≡ true =
            old place (sym (is_kept-set_other es saved.0 place e ne) ∙ h) in
            let split : is_logged (drop i log) place ≡ (eqb saved.0 place || rest) =
            at_drop_more (λ some. is_logged some place) log i saved l
            ∙ ap (λ (s : ℕ × X). eqb s.0 place || rest) (sym at) in
            let apart : eqb saved.0 place ≡ false = ne_eqb saved.0 place (λ e. ne (sym e)) in
            sym (ap (λ b. b || rest) apart) ∙ sym split ∙ was
      ]

  -- the first entries, where those that are left out are not in the log
  pub is_kept-take : (es : List (Logged X)) (log : List (ℕ × X)) (n m : ℕ)
      → IsBelow n log → n ≤ m → IsKeptAsLogged es log → IsKeptAsLogged (take m es) log
  is_kept-take es log n m below within kept place =
      ap (λ ks. get_or ks place false) (sym (take-map (λ (x : Logged X). x.kept) m es))
      ∙ elim (cases_lt place m) [
        | inl l ↦ get_or-take m (flags es) place false l ∙ kept place
        | inr past ↦
            get_or_past (take m (flags es)) place false (omega (arith, length-take m (flags es)))
            ∙ sym (not_logged_past log n place below (omega arith))
      ]

  pub is_kept-push : (es : List (Logged X)) (log : List (ℕ × X)) (at : ℕ) (x : X) (e : Logged X)
      → at < length es → e.kept ≡ true → IsKeptAsLogged es log → IsKeptAsLogged (set es at e) (log ++ (at, x) ∷ [])
  is_kept-push es log at x e within is kept place =
      elim (cases_eq place at) [
        | inl same ↦
            ap (is_kept (set es at e)) same
            ∙ is_kept-set_at es at e within
            ∙ is
            ∙ sym (is_logged-push log at place x ∙ or_right _ _ (or_left _ _ (eq-eqb at place (sym same))))
        | inr ne ↦
            is_kept-set_other es at place e ne
            ∙ kept place
            ∙ sym (or_false (is_logged log place))
            ∙ sym (ap (λ b. is_logged log place || (b || false)) (ne_eqb at place (λ e. ne (sym e))))
            ∙ sym (is_logged-push log at place x)
      ]

  pub records-unkept : (es : List (Logged X)) → records (map unkept es) ≡ records es
  records-unkept [] = refl
  records-unkept (e ∷ es) = ap (λ xs. e.item ∷ xs) (records-unkept es)

  pub is_kept-unkept : (es : List (Logged X)) (place : ℕ) → is_kept (map unkept es) place ≡ false
  is_kept-unkept [] place = refl
  is_kept-unkept (e ∷ es) zero = refl
  is_kept-unkept (e ∷ es) (suc place) = is_kept-unkept es place
