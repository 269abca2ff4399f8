-- The options that were gathered from the words in front.
use Rattle.std.proofs.Common.{◌≡◌, ℕ, suc, zero, false, List, [], ◌∷◌, ◌++◌, length, get_or, Option, Some, None, All, refl, sym, ap, subst, ◌∙◌, arith, inl, inr}
use Rattle.std.specs.Prelude.{AllPairs, codes}
use Rattle.std.specs.List.{Contains}
use Rattle.std.specs.Str.{bytes_eq}
use Rattle.std.proofs.lemmas.List.{append-nil}
use Rattle.std.proofs.lemmas.Bool.{false≢true}
use Rattle.std.proofs.lemmas.List.Elements.{All-append, All-cons, All-nil}
use Rattle.std.proofs.lemmas.List.Quantifiers.{all_pairs_push}
use Rattle.nomos_words.specs.FindsOne.{FindsOne}
use Rattle.nomos_words.specs.Options.{AreOptions, option_names, option_value, option_words}
use Rattle.nomos_words.specs.mirror.GivenOptions.{AreGiven, OptionValues, if_new, given_by, with_option}
use Rattle.nomos_words.proofs.OptionLemmas.{Pair, options_front, option_words-push, bytes_eq-cases, option_value-other, option_value-same, option_value-missing, option_value-place, IsKnown, AreApart, behind_known, behind_apart}

-- ---- one more option

if_new_some : (o : Option (List ℕ)) (g next : OptionValues) → if_new o g ≡ Some next → (o ≡ None) × (next ≡ g)
if_new_some None g next e = (refl, cc)
if_new_some (Some word) g next e = absurd cc

if_new_none : (o : Option (List ℕ)) (g : OptionValues) → if_new o g ≡ None → (word : List ℕ) × (o ≡ Some word)
if_new_none None g e = absurd cc
if_new_none (Some word) g e = (word, refl)

-- a name is that of an option, or of none
data Named (name : List ℕ) : Type 0 where
  workers : name ≡ codes "--workers" → Named name
  policy : name ≡ codes "--policy" → Named name
  steps : name ≡ codes "--steps" → Named name
  journal : name ≡ codes "--journal" → Named name
  none : bytes_eq name (codes "--workers") ≡ false → bytes_eq name (codes "--policy") ≡ false
      → bytes_eq name (codes "--steps") ≡ false → bytes_eq name (codes "--journal") ≡ false → Named name

named : (name : List ℕ) → Named name
named name = elim (bytes_eq-cases name (codes "--workers")) [
  | inl w ↦ workers w.1
  | inr w ↦ elim (bytes_eq-cases name (codes "--policy")) [
    | inl p ↦ policy p.1
    | inr p ↦ elim (bytes_eq-cases name (codes "--steps")) [
      | inl s ↦ steps s.1
      | inr s ↦ elim (bytes_eq-cases name (codes "--journal")) [
        | inl j ↦ journal j.1
        | inr j ↦ none w.0 p.0 s.0 j.0
      ]
    ]
  ]
]

with_option-none : (given : OptionValues) (name value : List ℕ) → bytes_eq name (codes "--workers") ≡ false
    → bytes_eq name (codes "--policy") ≡ false → bytes_eq name (codes "--steps") ≡ false
    → bytes_eq name (codes "--journal") ≡ false → with_option given name value ≡ None
with_option-none given name value w p s j = rw (w, p, s, j) refl

-- what follows where an option was added: it is one, it is new, and the values are those with it
record IsAdded (done : List Pair) (name value : List ℕ) (next : OptionValues) : Type 0 where
  pub is_option : Contains option_names name
  pub is_new : option_value name done ≡ None
  pub next_is : next ≡ given_by (done ++ (name, value) ∷ [])

-- the values of options, and one more
abbrev with_workers : List Pair → List ℕ → OptionValues
with_workers done value = record (given_by done) { workers = Some value }

abbrev with_policy : List Pair → List ℕ → OptionValues
with_policy done value = record (given_by done) { policy = Some value }

abbrev with_steps : List Pair → List ℕ → OptionValues
with_steps done value = record (given_by done) { steps = Some value }

abbrev with_journal : List Pair → List ℕ → OptionValues
with_journal done value = record (given_by done) { journal = Some value }

values_same : (a b : OptionValues) → a.workers ≡ b.workers → a.policy ≡ b.policy → a.steps ≡ b.steps
    → a.journal ≡ b.journal → a ≡ b
values_same a b w p s j =
    ap (λ x. record a { workers = x }) w
    ∙ ap (λ x. record { workers = b.workers; policy = x; steps = a.steps; journal = a.journal }) p
    ∙ ap (λ x. record { workers = b.workers; policy = b.policy; steps = x; journal = a.journal }) s
    ∙ ap (λ x. record b { journal = x }) j

added : (done : List Pair) (name value : List ℕ) (next : OptionValues) → Named name
    → with_option (given_by done) name value ≡ Some next → IsAdded done name value next
added done name value next (workers is) e =
    let key = codes "--workers" in
    let told = if_new_some (option_value key done) (with_workers done value) next (rw is at e) in
    rw is (record {
      is_option = (0, omega arith, refl);
      is_new = told.0;
      next_is = told.1 ∙ values_same (with_workers done value) (given_by (done ++ (key, value) ∷ []))
          (sym (option_value-same key value done told.0))
          (sym (option_value-other (codes "--policy") key value done refl))
          (sym (option_value-other (codes "--steps") key value done refl))
          (sym (option_value-other (codes "--journal") key value done refl));
    })
added done name value next (policy is) e =
    let key = codes "--policy" in
    let told = if_new_some (option_value key done) (with_policy done value) next (rw is at e) in
    rw is (record {
      is_option = (1, omega arith, refl);
      is_new = told.0;
      next_is = told.1 ∙ values_same (with_policy done value) (given_by (done ++ (key, value) ∷ []))
          (sym (option_value-other (codes "--workers") key value done refl))
          (sym (option_value-same key value done told.0))
          (sym (option_value-other (codes "--steps") key value done refl))
          (sym (option_value-other (codes "--journal") key value done refl));
    })
added done name value next (steps is) e =
    let key = codes "--steps" in
    let told = if_new_some (option_value key done) (with_steps done value) next (rw is at e) in
    rw is (record {
      is_option = (2, omega arith, refl);
      is_new = told.0;
      next_is = told.1 ∙ values_same (with_steps done value) (given_by (done ++ (key, value) ∷ []))
          (sym (option_value-other (codes "--workers") key value done refl))
          (sym (option_value-other (codes "--policy") key value done refl))
          (sym (option_value-same key value done told.0))
          (sym (option_value-other (codes "--journal") key value done refl));
    })
added done name value next (journal is) e =
    let key = codes "--journal" in
    let told = if_new_some (option_value key done) (with_journal done value) next (rw is at e) in
    rw is (record {
      is_option = (3, omega arith, refl);
      is_new = told.0;
      next_is = told.1 ∙ values_same (with_journal done value) (given_by (done ++ (key, value) ∷ []))
          (sym (option_value-other (codes "--workers") key value done refl))
          (sym (option_value-other (codes "--policy") key value done refl))
          (sym (option_value-other (codes "--steps") key value done refl))
          (sym (option_value-same key value done told.0));
    })
added done name value next (none w p s j) e =
    absurd (let no = with_option-none (given_by done) name value w p s j in cc)

no_option : (name : List ℕ) → Contains option_names name → bytes_eq name (codes "--workers") ≡ false
    → bytes_eq name (codes "--policy") ≡ false → bytes_eq name (codes "--steps") ≡ false
    → bytes_eq name (codes "--journal") ≡ false → ⊥
no_option name (zero, within, is) w p s j = false≢true (sym (rw (sym is) at w))
no_option name (suc zero, within, is) w p s j = false≢true (sym (rw (sym is) at p))
no_option name (suc (suc zero), within, is) w p s j = false≢true (sym (rw (sym is) at s))
no_option name (suc (suc (suc zero)), within, is) w p s j = false≢true (sym (rw (sym is) at j))
no_option name (suc (suc (suc (suc k))), within, is) w p s j = omega (arith, within)

-- where an option is not added, it was there before
taken : (done : List Pair) (name value : List ℕ) → Named name → Contains option_names name
    → with_option (given_by done) name value ≡ None → (word : List ℕ) × (option_value name done ≡ Some word)
taken done name value (workers is) one e =
    rw is (if_new_none (option_value (codes "--workers") done) (with_workers done value) (rw is at e))
taken done name value (policy is) one e =
    rw is (if_new_none (option_value (codes "--policy") done) (with_policy done value) (rw is at e))
taken done name value (steps is) one e =
    rw is (if_new_none (option_value (codes "--steps") done) (with_steps done value) (rw is at e))
taken done name value (journal is) one e =
    rw is (if_new_none (option_value (codes "--journal") done) (with_journal done value) (rw is at e))
taken done name value (none w p s j) one e = absurd (no_option name one w p s j)

-- ---- while the words are gone through

-- options are the words in front of those that are left, and these are their values
pub record HasGathered (words left : List (List ℕ)) (given : OptionValues) : Type 0 where
  pub done : List Pair
  pub are : words ≡ option_words done ++ left
  pub known : All IsKnown done
  pub once : AllPairs AreApart done
  pub given_is : given ≡ given_by done

pub HasGathered-next : (words after : List (List ℕ)) (name value : List ℕ) (given next : OptionValues)
    → HasGathered words (name ∷ value ∷ after) given → with_option given name value ≡ Some next
    → HasGathered words after next
HasGathered-next words after name value given next g e =
    let told = added g.done name value next (named name) (ap (λ v. with_option v name value) (sym g.given_is) ∙ e) in
    record {
      done = g.done ++ (name, value) ∷ [];
      are = g.are ∙ option_words-push g.done name value after;
      known = All-append IsKnown g.done ((name, value) ∷ []) g.known
          (All-cons IsKnown (name, value) [] told.is_option (All-nil IsKnown));
      once = all_pairs_push AreApart g.done (name, value) g.once
          (λ k d within. option_value-missing name g.done told.is_new k d within);
      given_is = told.next_is;
    }

-- the options that the words are begin with those
front : (words left : List (List ℕ)) (given : OptionValues) (g : HasGathered words left given) (options : List Pair)
    → AreOptions words options → (rest : List Pair) × (options ≡ g.done ++ rest) × (left ≡ option_words rest)
front words left given g options are = options_front g.done options left (sym g.are ∙ are.are)

stops : (words after : List (List ℕ)) (name value : List ℕ) (given : OptionValues)
    → (g : HasGathered words (name ∷ value ∷ after) given) → with_option (given_by g.done) name value ≡ None
    → (options : List Pair) → AreOptions words options → (rest : List Pair) → options ≡ g.done ++ rest
    → name ∷ value ∷ after ≡ option_words rest → ⊥
stops words after name value given g e options are [] whole left = omega (arith, ap length left)
stops words after name value given g e options are (o ∷ rest) whole left =
    let none : List ℕ = [] in
    let same : o.0 ≡ name = sym (ap (λ ws. get_or ws 0 none) left) in
    let is_option : Contains option_names name =
    subst (λ n. Contains option_names n) same (behind_known g.done rest o (subst (All IsKnown) whole are.known)) in
    let there = taken g.done name value (named name) is_option e in
    let place = option_value-place name there.0 g.done there.1 in
    behind_apart g.done rest o (subst (AllPairs AreApart) whole are.once) place.0 place.1 (place.2 o ∙ sym same)

pub HasGathered-stops : (words after : List (List ℕ)) (name value : List ℕ) (given : OptionValues)
    → HasGathered words (name ∷ value ∷ after) given → with_option given name value ≡ None
    → (other : OptionValues) → AreGiven words other → ⊥
HasGathered-stops words after name value given g e other (options, are, values_are) =
    let told = front words (name ∷ value ∷ after) given g options are in
    let stopped = ap (λ v. with_option v name value) (sym g.given_is) ∙ e in
    stops words after name value given g stopped options are told.0 told.1 told.2

odd : (name : List ℕ) (rest : List Pair) → name ∷ [] ≡ option_words rest → ⊥
odd name [] e = omega (arith, ap length e)
odd name (o ∷ rest) e = omega (arith, ap length e)

pub HasGathered-odd : (words : List (List ℕ)) (name : List ℕ) (given : OptionValues)
    → HasGathered words (name ∷ []) given → (other : OptionValues) → AreGiven words other → ⊥
HasGathered-odd words name given g other (options, are, values_are) =
    let told = front words (name ∷ []) given g options are in odd name told.0 told.2

pub none_left : (rest : List Pair) → [] ≡ option_words rest → rest ≡ []
none_left [] e = refl
none_left (o ∷ rest) e = absurd (omega (arith, ap length e))

pub HasGathered-all : (words : List (List ℕ)) (given : OptionValues) → HasGathered words [] given
    → FindsOne (AreGiven words) (Some given)
HasGathered-all words given g =
    record {
      found = (
        g.done,
        record { are = g.are ∙ append-nil (option_words g.done); known = g.known; once = g.once },
        g.given_is,
      );
      each = λ other is.
          let told = front words [] given g is.0 is.1 in
          let all = none_left told.0 told.2 in
          let same : is.0 ≡ g.done = told.1 ∙ ap (λ rest. g.done ++ rest) all ∙ append-nil g.done in
          ap (λ v. Some v) (g.given_is ∙ ap given_by (sym same) ∙ sym is.2);
    }
