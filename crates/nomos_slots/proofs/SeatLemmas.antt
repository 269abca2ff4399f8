-- The log of a column has each place once, so it is never longer than what is marked.
use Rattle.std.proofs.Common.{◌≡◌, ◌<◌, ◌≤◌, ◌+◌, ◌||◌, ℕ, true, false, eqb, List, [], ◌∷◌, ◌++◌, Option, map, length, sym, ap, ◌∙◌, refl, inl, inr, arith}
use Rattle.std.specs.List.{AllByRecursion, IsDistinct, list_any}
use Rattle.std.specs.Global.{Vec}
use Rattle.std.specs.Vec.{vec_len, vec_capacity}
use Rattle.std.proofs.lemmas.Bool.{cases_eq, cases_lt, eq-eqb, ne_eqb, or_parts, false≢true}
use Rattle.std.proofs.lemmas.List.{length-append, length-map}
use Rattle.std.proofs.lemmas.List.Elements.{All-push}
use Rattle.std.proofs.lemmas.Map.Steps.{length-le_from_distinct_below}
use Rattle.nomos_slots.specs.Log.{is_kept, is_logged, mark_len, marking_of, HasSeat, IsBelow, IsOnce, IsSound}
use Rattle.nomos_slots.specs.declared.column.Logged.{Logged}
use Rattle.nomos_slots.proofs.LogLemmas.{not_logged_past, IsOnce-push}

eqb-other_way : (a b : ℕ) → eqb a b ≡ eqb b a
eqb-other_way a b =
    elim (cases_eq a b) [
      | inl same ↦ eq-eqb a b same ∙ sym (eq-eqb b a (sym same))
      | inr apart ↦ ne_eqb a b apart ∙ sym (ne_eqb b a (λ e. apart (sym e)))
    ]

module _ {X : Type 0} where
  any-place : (log : List (ℕ × X)) (place : ℕ) → list_any (eqb place) (map (λ s. s.0) log) ≡ is_logged log place
  any-place [] place = refl
  any-place (saved ∷ log) place =
      ap (λ b. b || list_any (eqb place) (map (λ (s : ℕ × X). s.0) log)) (eqb-other_way place saved.0)
      ∙ ap (λ b. eqb saved.0 place || b) (any-place log place)

  all-apart : (log : List (ℕ × X)) (place : ℕ) → is_logged log place ≡ false
      → AllByRecursion (λ y. eqb place y ≡ false) (map (λ s. s.0) log)
  all-apart [] place not = tt
  all-apart (saved ∷ log) place not =
      let parts = or_parts (eqb saved.0 place) (is_logged log place) not in
      (eqb-other_way place saved.0 ∙ parts.0, all-apart log place parts.1)

  distinct : (log : List (ℕ × X)) → IsOnce log → IsDistinct eqb (map (λ s. s.0) log)
  unfolding IsDistinct
  distinct [] once = tt
  distinct (saved ∷ log) once = (all-apart log saved.0 once.0, distinct log once.1)

  pub length-below : (log : List (ℕ × X)) (n : ℕ) → IsOnce log → IsBelow n log → length log ≤ n
  length-below log n once below =
      let at : (q : ℕ) → list_any (eqb q) (map (λ (s : ℕ × X). s.0) log) ≡ true → q < n =
      λ q has. elim (cases_lt q n) [
        | inl lt ↦ lt
        | inr past ↦
            let none : is_logged log q ≡ false = not_logged_past log n q below past in
            absurd (false≢true (sym none ∙ sym (any-place log q) ∙ has))
      ] in
      let few : length (map (λ (s : ℕ × X). s.0) log) ≤ n =
      length-le_from_distinct_below (map (λ (s : ℕ × X). s.0) log) n (distinct log once) at in
      omega (arith, few, length-map log (λ (s : ℕ × X). s.0))

  -- a place that is to be logged finds a seat
  pub seat-there : (es : Vec (Logged X)) (log : Vec (ℕ × X)) (marked : Option ℕ) (at : ℕ) (x : X)
      → IsSound es.items log.items marked → at < mark_len marked → is_kept es.items at ≡ false
      → HasSeat (marking_of es log marked) → vec_len log < vec_capacity log
  seat-there es log marked at x sound within not seat =
      elim seat [
        | inl room ↦ omega arith
        | inr seats ↦
            let once = IsOnce-push log.items at x (sym (sound.kept at) ∙ not) sound.once in
            let below = All-push (λ (s : ℕ × X). s.0 < mark_len marked) log.items (at, x) sound.below within in
            let few : length (log.items ++ (at, x) ∷ []) ≤ mark_len marked = length-below _ _ once below in
            omega (
              arith,
              few,
              length-append log.items ((at, x) ∷ []),
              sound.within,
              log.ok.0,
              length-map es.items (λ (e : Logged X). e.item),
            )
      ]

  -- one more record that is to be logged leaves the log no longer than what is marked
  pub one-more : (es : List (Logged X)) (log : List (ℕ × X)) (marked : Option ℕ) (at : ℕ) (x : X)
      → IsSound es log marked → at < mark_len marked → is_kept es at ≡ false → length log + 1 ≤ length es
  one-more es log marked at x sound within not =
      let once = IsOnce-push log at x (sym (sound.kept at) ∙ not) sound.once in
      let below = All-push (λ (s : ℕ × X). s.0 < mark_len marked) log (at, x) sound.below within in
      let few : length (log ++ (at, x) ∷ []) ≤ mark_len marked = length-below _ _ once below in
      omega (arith, few, length-append log ((at, x) ∷ []), sound.within)

  pub log-within : (es : List (Logged X)) (log : List (ℕ × X)) (marked : Option ℕ)
      → IsSound es log marked → length log ≤ length es
  log-within es log marked sound =
      let few : length log ≤ mark_len marked = length-below log _ sound.once sound.below in
      omega (arith, sound.within)

  -- past the mark nothing is kept
  pub not_kept_past : (es : List (Logged X)) (log : List (ℕ × X)) (marked : Option ℕ) (at : ℕ)
      → IsSound es log marked → mark_len marked ≤ at → is_kept es at ≡ false
  not_kept_past es log marked at sound past = sound.kept at ∙ not_logged_past log _ at sound.below past
