-- Options as they stand in the words, and the value behind a name.
use Rattle.std.proofs.Common.{◌≡◌, ◌≢◌, ◌⊎◌, ℕ, ◌<◌, ◌+◌, suc, zero, Bool, true, false, List, [], ◌∷◌, ◌++◌, length, take, drop, get_or, map, string_bytes, ◌≤◌, ◌-◌, Decides, Some, None, All, refl, sym, ap, ◌∙◌, subst, cond, arith, inl, inr, length-append}
use Rattle.std.specs.Prelude.{AllPairs}
use Rattle.std.specs.List.{Contains}
use Rattle.std.specs.Str.{bytes_eq}
use Rattle.std.proofs.lemmas.Bool.{false≢true}
use Rattle.std.proofs.lemmas.List.{get_or_append_left, get_or-append-add, take_rest}
use Rattle.std.proofs.lemmas.Slice.Eq.{bytes_eq-Decides}
use Rattle.std.specs.declared.string.String.{String}
use Rattle.nomos_words.specs.Options.{option_names, option_value, option_words}

abbrev pub Pair : Type 0
Pair = List ℕ × List ℕ

-- ---- words

-- words of which there are two or more
pub two_words : {Z : Type 0} (words : List (String Z)) (name value : String Z) → 2 ≤ length words
    → name ≡ get_or words 0 name → value ≡ get_or words 1 value
    → map string_bytes words
    ≡ string_bytes name ∷ string_bytes value ∷ map string_bytes (take (length words - 2) (drop 2 words))
two_words [] name value some n v = absurd (omega (arith, some))
two_words (w ∷ []) name value some n v = absurd (omega (arith, some))
two_words (w ∷ x ∷ words) name value some n v =
    ap (λ y. string_bytes y ∷ string_bytes x ∷ map string_bytes words) (sym n)
    ∙ ap (λ y. string_bytes name ∷ string_bytes y ∷ map string_bytes words) (sym v)
    ∙ ap (λ ws. string_bytes name ∷ string_bytes value ∷ map string_bytes ws) (sym (take_rest (w ∷ x ∷ words) 2))

-- words of which there is none, or one
pub no_words : {Z : Type 0} (words : List (String Z)) → length words ≡ 0 → map string_bytes words ≡ []
no_words [] none = refl
no_words (w ∷ words) none = absurd (omega (arith, none))

pub one_word : {Z : Type 0} (words : List (String Z)) → length words ≢ 0 → length words < 2
    → (word : List ℕ) × (map string_bytes words ≡ word ∷ [])
one_word [] some few = absurd (some refl)
one_word (w ∷ []) some few = (string_bytes w, refl)
one_word (w ∷ x ∷ words) some few = absurd (omega (arith, few))

-- ---- the words of options

-- options whose words stand in front are the first of those that the words are
pub options_front : (done options : List Pair) (left : List (List ℕ)) → option_words done ++ left ≡ option_words options
    → (rest : List Pair) × (options ≡ done ++ rest) × (left ≡ option_words rest)
options_front [] options left e = (options, refl, e)
options_front ((name, value) ∷ done) [] left e = absurd (omega (arith, ap length e))
options_front ((name, value) ∷ done) ((n, v) ∷ options) left e =
    let d : List ℕ = [] in
    let same_name : name ≡ n = ap (λ ws. get_or ws 0 d) e in
    let same_value : value ≡ v = ap (λ ws. get_or ws 1 d) e in
    let told = options_front done options left (ap (λ ws. drop 2 ws) e) in (
      told.0,
      ap (λ x. (x, v) ∷ options) (sym same_name) ∙ ap (λ x. (name, x) ∷ options) (sym same_value)
          ∙ ap (λ os. (name, value) ∷ os) told.1,
      told.2,
    )

-- the words of options of which one is added
pub option_words-push : (done : List Pair) (name value : List ℕ) (left : List (List ℕ))
    → option_words done ++ (name ∷ value ∷ left) ≡ option_words (done ++ (name, value) ∷ []) ++ left
option_words-push [] name value left = refl
option_words-push (d ∷ done) name value left = ap (λ ws. d.0 ∷ d.1 ∷ ws) (option_words-push done name value left)

-- ---- the value behind a name

cases : (b : Bool) {P : Type 0} → Decides b P → ((b ≡ true) × P) ⊎ ((b ≡ false) × (P → ⊥))
cases true d = inl (refl, d.0 refl)
cases false d = inr (refl, λ p. false≢true (d.1 p))

-- whether two words are the same
pub bytes_eq-cases : (xs ys : List ℕ) → ((bytes_eq xs ys ≡ true) × (xs ≡ ys)) ⊎ ((bytes_eq xs ys ≡ false) × (xs ≢ ys))
bytes_eq-cases xs ys = cases (bytes_eq xs ys) (bytes_eq-Decides xs ys)

-- one more option with another name
pub option_value-other : (key name value : List ℕ) (done : List Pair) → bytes_eq key name ≡ false
    → option_value key (done ++ (name, value) ∷ []) ≡ option_value key done
option_value-other key name value [] other = rw other refl
option_value-other key name value (d ∷ done) other =
    ap (λ v. cond (bytes_eq key d.0) (Some d.1) v) (option_value-other key name value done other)

-- one more option with this name
pub option_value-same : (key value : List ℕ) (done : List Pair) → option_value key done ≡ None
    → option_value key (done ++ (key, value) ∷ []) ≡ Some value
option_value-same key value [] none = rw ((bytes_eq-Decides key key).1 refl) refl
option_value-same key value (d ∷ done) none = elim (bytes_eq-cases key d.0) [
  | inl same ↦ let found : Some d.1 ≡ None = rw same.0 at none in cc
  | inr other ↦
      let rest : option_value key done ≡ None = rw other.0 at none in
      rw other.0 (option_value-same key value done rest)
]

-- where a name has no value, no option has it
pub option_value-missing : (key : List ℕ) (done : List Pair) → option_value key done ≡ None
    → (k : ℕ) (d : Pair) → k < length done → (get_or done k d).0 ≢ key
option_value-missing key [] none k d within same = omega (arith, within)
option_value-missing key (o ∷ done) none zero d within same = elim (bytes_eq-cases key o.0) [
  | inl found ↦ let some : Some o.1 ≡ None = rw found.0 at none in cc
  | inr other ↦ other.1 (sym same)
]
option_value-missing key (o ∷ done) none (suc k) d within same = elim (bytes_eq-cases key o.0) [
  | inl found ↦ let some : Some o.1 ≡ None = rw found.0 at none in cc
  | inr other ↦ option_value-missing key done (rw other.0 at none) k d (omega (arith, within)) same
]

-- where a name has a value, an option has it
pub option_value-place : (key value : List ℕ) (done : List Pair) → option_value key done ≡ Some value
    → (k : ℕ) × (k < length done) × ((d : Pair) → (get_or done k d).0 ≡ key)
option_value-place key value [] some = absurd cc
option_value-place key value (o ∷ done) some = elim (bytes_eq-cases key o.0) [
  | inl found ↦ (0, omega arith, λ d. sym found.1)
  | inr other ↦
      let rest : option_value key done ≡ Some value = rw other.0 at some in
      let told = option_value-place key value done rest in
      (suc told.0, omega (arith, told.1), told.2)
]

-- ---- an option with others in front of it

abbrev pub IsKnown : Pair → Type 0
IsKnown option = Contains option_names option.0

abbrev pub AreApart : Pair → Pair → Type 0
AreApart one other = one.0 ≢ other.0

pub behind_known : (done rest : List Pair) (o : Pair) → All IsKnown (done ++ o ∷ rest) → IsKnown o
behind_known done rest o known =
    let here : get_or (done ++ o ∷ rest) (length done + 0) o ≡ o = get_or-append-add done (o ∷ rest) 0 o in
    let within : length done + 0 < length (done ++ o ∷ rest) = omega (arith, length-append done (o ∷ rest)) in
    subst IsKnown here (known (length done + 0) o within)

-- then none in front has its name
pub behind_apart : (done rest : List Pair) (o : Pair) → AllPairs AreApart (done ++ o ∷ rest) → (k : ℕ) → k < length done
    → (get_or done k o).0 ≢ o.0
behind_apart done rest o once k earlier same =
    let here : get_or (done ++ o ∷ rest) (length done + 0) o ≡ o = get_or-append-add done (o ∷ rest) 0 o in
    let there : get_or (done ++ o ∷ rest) k o ≡ get_or done k o = get_or_append_left done (o ∷ rest) o k earlier in
    let within : length done + 0 < length (done ++ o ∷ rest) = omega (arith, length-append done (o ∷ rest)) in
    once k (length done + 0) o (omega (arith, earlier)) within
    (ap (λ p. p.0) there ∙ same ∙ sym (ap (λ p. p.0) here))
