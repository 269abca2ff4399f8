-- Labels under their numbers, beside the texts that are kept.
use Rattle.std.proofs.Common.{◌≡◌, ◌≢◌, ℕ, zero, suc, ◌+◌, ◌<◌, ◌≤◌, ◌^◌, Bool, false, ltb, List, [], ◌∷◌, ◌++◌, length, map, take, get_or, position, Some, None, refl, sym, ap, ◌∙◌, inl, inr, arith}
use Rattle.std.specs.Prelude.{AllPairs, slice_get, if◌then◌else◌}
use Rattle.std.specs.List.{list_any, position_or_len}
use Rattle.std.specs.Str.{bytes_eq}
use Rattle.std.proofs.lemmas.Bool.{cases_Bool, false≢true}
use Rattle.std.proofs.lemmas.Bool.Decides.{nat_tests}
use Rattle.std.proofs.lemmas.List.{get_or-take, length-map, length-take, map-append, take_more}
use Rattle.std.proofs.lemmas.List.Quantifiers.{position-Some}
use Rattle.std.proofs.lemmas.Option.{get_or_from_slice_get, slice_get-get_or, slice_get_within}
use Rattle.std.proofs.lemmas.Slice.Eq.{bytes_eq-Decides}

-- a test that each item fails
none-passes : (q : List ℕ → Bool) (d : List ℕ) (labels : List (List ℕ))
    → ((k : ℕ) → k < length labels → q (get_or labels k d) ≡ false) → list_any q labels ≡ false
none-passes q d [] fails = refl
none-passes q d (l ∷ labels) fails =
    rw (fails 0 (omega arith), none-passes q d labels (λ k within. fails (suc k) (omega (arith, within)))) refl

-- a test of texts
any-map : {X : Type 0} (q : List ℕ → Bool) (text : X → List ℕ) (xs : List X)
    → list_any (λ x. q (text x)) xs ≡ list_any q (map text xs)
any-map q text [] = refl
any-map q text (x ∷ xs) = rw (any-map q text xs) refl

place-map : {X : Type 0} (q : List ℕ → Bool) (text : X → List ℕ) (xs : List X)
    → position_or_len (λ x. q (text x)) xs ≡ position_or_len q (map text xs)
place-map q text [] = refl
place-map q text (x ∷ xs) = rw (place-map q text xs) refl

position-map : {X : Type 0} (q : List ℕ → Bool) (text : X → List ℕ) (xs : List X)
    → position (λ x. q (text x)) xs ≡ position q (map text xs)
position-map q text xs = rw (place-map q text xs, ← length-map xs text) refl

-- a text that differs is not equal
differs : (m n : List ℕ) → m ≢ n → bytes_eq m n ≡ false
differs m n other = elim (cases_Bool (bytes_eq m n)) [
  | inl same ↦ absurd (other ((bytes_eq-Decides m n).0 same))
  | inr other_text ↦ other_text
]

-- one label more
pub label-put : {X : Type 0} (text : X → List ℕ) (xs ys : List X) (x : X) (labels : List (List ℕ)) (i : ℕ)
    (name : List ℕ)
    → AllPairs (λ k l. k ≢ l) labels → i < length labels → map text xs ≡ take i labels → text x ≡ name
    → name ≡ get_or labels i name
    → ys ≡ (if list_any (λ y. bytes_eq (text x) (text y)) xs then xs else xs ++ x ∷ [])
    → map text ys ≡ take (i + 1) labels
label-put text xs ys x labels i name differ within view is at kept =
    let fails : (k : ℕ) → k < length (take i labels) → bytes_eq (text x) (get_or (take i labels) k name) ≡ false =
    λ k below.
    let small : k < i = omega (arith, below, length-take i labels) in
    rw (get_or-take i labels k name small) (differs (text x) (get_or labels k name)
    (λ e. differ k i name small within (sym e ∙ is ∙ at))) in
    let new : list_any (λ y. bytes_eq (text x) (text y)) xs ≡ false =
    any-map (bytes_eq (text x)) text xs ∙ ap (list_any (bytes_eq (text x))) view
    ∙ none-passes (bytes_eq (text x)) name (take i labels) fails in
    ap (map text) kept ∙ rw new (map-append text xs (x ∷ [])) ∙ (λ j. view j ++ is j ∷ [])
    ∙ ap (λ (l : List ℕ). take i labels ++ l ∷ []) at ∙ sym (take_more labels i name within)

-- the number of a label
pub label-found : {X : Type 0} (text : X → List ℕ) (name : List ℕ) (xs : List X) (labels : List (List ℕ)) (n : ℕ)
    → map text xs ≡ labels → position (λ x. bytes_eq name (text x)) xs ≡ Some n → slice_get labels n ≡ Some name
label-found text name xs labels n view found =
    let at : position (bytes_eq name) labels ≡ Some n =
    ap (position (bytes_eq name)) (sym view) ∙ sym (position-map (bytes_eq name) text xs) ∙ found in
    let told = position-Some (bytes_eq name) labels n [] at in
    let same : name ≡ get_or labels n [] = (bytes_eq-Decides name (get_or labels n [])).0 told.1 in
    slice_get-get_or labels n [] told.0 ∙ ap (λ (t : List ℕ). Some t) (sym same)

-- a test that no item passes
all-fail : (q : List ℕ → Bool) (labels : List (List ℕ)) → length labels ≤ position_or_len q labels → (k : ℕ)
    → k < length labels → q (get_or labels k []) ≡ false
all-fail q [] le k within = absurd (omega (arith, within))
all-fail q (l ∷ labels) le zero within = elim (cases_Bool (q l)) [
  | inl passes ↦ let at : position_or_len q (l ∷ labels) ≡ 0 = rw passes refl in absurd (omega (arith, at, le))
  | inr fails ↦ fails
]
all-fail q (l ∷ labels) le (suc k) within = elim (cases_Bool (q l)) [
  | inl passes ↦ let at : position_or_len q (l ∷ labels) ≡ 0 = rw passes refl in absurd (omega (arith, at, le))
  | inr fails ↦
      let at : position_or_len q (l ∷ labels) ≡ 1 + position_or_len q labels = rw fails refl in
      all-fail q labels (omega (arith, at, le)) k (omega (arith, within))
]

none-found : (q : List ℕ → Bool) (labels : List (List ℕ)) → position q labels ≡ None → (k : ℕ) → k < length labels
    → q (get_or labels k []) ≡ false
none-found q labels none k within = elim (cases_Bool (ltb (position_or_len q labels) (length labels))) [
  | inl some ↦
      let found : position q labels ≡ Some (position_or_len q labels) = rw some refl in
      absurd (let f = none in let g = found in cc)
  | inr past ↦ all-fail q labels (grind (arith, nat_tests)) k within
]

-- no label is a name whose test fails
no-label : (name : List ℕ) (labels : List (List ℕ)) (l : ℕ) → bytes_eq name (get_or labels l []) ≡ false
    → slice_get labels l ≢ Some name
no-label name labels l fails is =
    let same : get_or labels l [] ≡ name = get_or_from_slice_get labels l name [] is in
    absurd (false≢true (sym fails ∙ (bytes_eq-Decides name (get_or labels l [])).1 (sym same)))

-- no place is found
pub label-none : {X : Type 0} (text : X → List ℕ) (name : List ℕ) (xs : List X) (labels : List (List ℕ))
    → map text xs ≡ labels → position (λ x. bytes_eq name (text x)) xs ≡ None → (l : ℕ) → slice_get labels l ≢ Some name
label-none text name xs labels view none l is =
    let at : position (bytes_eq name) labels ≡ None =
    ap (position (bytes_eq name)) (sym view) ∙ sym (position-map (bytes_eq name) text xs) ∙ none in
    no-label name labels l (none-found (bytes_eq name) labels at l (slice_get_within labels l name is)) is

-- or one that 32 bits do not hold
pub label-large : {X : Type 0} (text : X → List ℕ) (name : List ℕ) (xs : List X) (labels : List (List ℕ)) (n : ℕ)
    → map text xs ≡ labels → position (λ x. bytes_eq name (text x)) xs ≡ Some n → 2 ^ 32 ≤ n → (l : ℕ) → l < 2 ^ 32
    → slice_get labels l ≢ Some name
label-large text name xs labels n view found large l small is =
    let at : position (bytes_eq name) labels ≡ Some n =
    ap (position (bytes_eq name)) (sym view) ∙ sym (position-map (bytes_eq name) text xs) ∙ found in
    let told = position-Some (bytes_eq name) labels n [] at in
    no-label name labels l (told.2 l (omega (arith, small, large))) is
