-- Labels under their numbers, beside the texts that lie in a program.
use Rattle.std.proofs.Common.{◌≡◌, ◌≢◌, ℕ, suc, ◌+◌, ◌<◌, ◌≤◌, Bool, true, false, not, ltb, List, [], ◌∷◌, ◌++◌, length, map, take, get_or, unwrap_or, refl, sym, ap, ◌∙◌, inl, inr, arith}
use Rattle.std.specs.Prelude.{AllPairs, if◌then◌else◌}
use Rattle.std.specs.List.{list_any, position, position_or_len}
use Rattle.std.specs.Str.{bytes_eq}
use Rattle.std.proofs.lemmas.Bool.{cases_Bool}
use Rattle.std.proofs.lemmas.Bool.Decides.{nat_tests}
use Rattle.std.proofs.lemmas.Cmp.{nat_list_eq_equiv}
use Rattle.std.proofs.lemmas.List.{get_or-take, length-take, map-append, take_more}
use Rattle.std.proofs.lemmas.List.Sums.{prefix_len-le-length}
use Rattle.std.proofs.lemmas.Slice.Eq.{bytes_eq-Decides}

-- ---- one label more

-- a test that each item fails
none-passes : (q : List ℕ → Bool) (d : List ℕ) (labels : List (List ℕ))
    → ((k : ℕ) → k < length labels → q (get_or labels k d) ≡ false) → list_any q labels ≡ false
none-passes q d [] fails = refl
none-passes q d (l ∷ labels) fails =
    rw (fails 0 (omega arith), none-passes q d labels (λ k within. fails (suc k) (omega (arith, within)))) refl

-- a test of texts
any-map : {X : Type 0} (q : List ℕ → Bool) (text : X → List ℕ) (xs : List X)
    → list_any (λ x. q (text x)) xs ≡ list_any q (map text xs)
any-map q text [] = refl
any-map q text (x ∷ xs) = rw (any-map q text xs) refl

-- a text that differs is not equal
differs : (m n : List ℕ) → m ≢ n → bytes_eq m n ≡ false
differs m n other = elim (cases_Bool (bytes_eq m n)) [
  | inl same ↦ absurd (other ((bytes_eq-Decides m n).0 same))
  | inr other_text ↦ other_text
]

-- The texts that were kept are the first labels; the next one differs from them, and is put behind them.
pub label-put : {X : Type 0} (text : X → List ℕ) (xs ys : List X) (x : X) (labels : List (List ℕ)) (i : ℕ)
    (name : List ℕ) → AllPairs (λ k l. k ≢ l) labels → i < length labels → map text xs ≡ take i labels → text x ≡ name
    → name ≡ get_or labels i name
    → ys ≡ (if list_any (λ y. bytes_eq (text x) (text y)) xs then xs else xs ++ x ∷ [])
    → map text ys ≡ take (i + 1) labels
label-put text xs ys x labels i name differ within view is at kept =
    let fails : (k : ℕ) → k < length (take i labels) → bytes_eq (text x) (get_or (take i labels) k name) ≡ false =
    λ k below.
    let small : k < i = omega (arith, below, length-take i labels) in
    rw (get_or-take i labels k name small) (differs (text x) (get_or labels k name)
    (λ e. differ k i name small within (sym e ∙ is ∙ at))) in
    let new : list_any (λ y. bytes_eq (text x) (text y)) xs ≡ false =
    any-map (bytes_eq (text x)) text xs ∙ ap (list_any (bytes_eq (text x))) view
    ∙ none-passes (bytes_eq (text x)) name (take i labels) fails in
    ap (map text) kept ∙ rw new (map-append text xs (x ∷ [])) ∙ (λ j. view j ++ is j ∷ [])
    ∙ ap (λ (l : List ℕ). take i labels ++ l ∷ []) at ∙ sym (take_more labels i name within)

-- ---- where a label stands

-- the place of the first item that passes, or the number of items
pub place_or_len : {X : Type 0} (p : X → Bool) (xs : List X)
    → unwrap_or (position p xs) (length xs) ≡ position_or_len p xs
place_or_len p xs = go (ltb (position_or_len p xs) (length xs)) refl
  where
    go : (b : Bool) → ltb (position_or_len p xs) (length xs) ≡ b
        → unwrap_or (position p xs) (length xs) ≡ position_or_len p xs
    go true e = rw e refl
    go false e =
        let le : position_or_len p xs ≤ length xs = prefix_len-le-length (λ x. not (p x)) xs in
        let same : length xs ≡ position_or_len p xs = grind (arith, nat_tests) in
        rw e same

-- the place of a name is that of the first item whose text it is
pub place-of_text : {X : Type 0} (text : X → List ℕ) (name : List ℕ) (xs : List X)
    → position_or_len (λ x. bytes_eq name (text x)) xs ≡ position_or_len (λ m. bytes_eq m name) (map text xs)
place-of_text text name [] = refl
place-of_text text name (x ∷ xs) = rw (nat_list_eq_equiv.symm name (text x), place-of_text text name xs) refl
