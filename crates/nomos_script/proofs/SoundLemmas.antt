-- What is read as values is written so.
use Rattle.std.proofs.Common.{◌≡◌, ℕ, ◌+◌, ◌≤◌, Bool, true, false, ◌==◌, ◌&&◌, nat_lt, nat_le, List, [], ◌∷◌, ◌++◌, length, Option, Some, None, codes, inl, inr, refl, sym, ◌∙◌, ap, append_assoc, arith}
use Rattle.std.specs.Str.{bytes_eq}
use Rattle.std.specs.Str.Parse.{digits_value}
use Rattle.std.proofs.lemmas.Bool.{cases_Bool, and_parts, leb-true, ltb-true, eqb-true}
use Rattle.std.proofs.lemmas.List.{append-nil}
use Rattle.std.proofs.lemmas.Slice.Eq.{bytes_eq-Decides}
use Rattle.nomos_ir.specs.Value.{Value, int, truth, list, value_list}
use Rattle.nomos_ir.specs.Weight.{weight, list_weight, max_weight}
use Rattle.nomos_script.specs.declared.value_reader.Awaited.{Awaited}
use Rattle.nomos_script.specs.declared.value_reader.Awaited.TheVariants as awaited
use Rattle.nomos_script.specs.ScriptScan.{Token, word, number, mark}
use Rattle.nomos_script.specs.ValueTree.{ValueTree, written_number, written_truth, written_list, ValueTrees, no_trees, tree, print_value, print_values, print_more_values, signed, value_at, values_at, largest, FitsNumbers, FitNumbers, nesting, nestings, max_nesting, AreValidValues}
use Rattle.nomos_script.specs.mirror.ValueReading.{ReadValues, nothing_read, awaits_value, may_end, put_into, put_number, take_digits, take_word, take_comma, take_mark, take_token, open_list, close_list, ends_values, read_values}
use Rattle.nomos_script.proofs.CompleteLemmas.{values_are_read}
use Rattle.nomos_script.proofs.GrowLemmas.{state, grow_values, grow_open, grow_open-length, AreLight, AreLightLists, only_if-some, and_then-some, was-put}

-- the tokens are those of the rest of a list, of which this may come next, before others
abbrev Goes : Awaited → ValueTrees → List Token → List Token → Type 0
Goes awaited.FirstValue trees tokens after = tokens ≡ print_values trees after
Goes awaited.NextValue no_trees tokens after = ⊥
Goes awaited.NextValue (tree v vs) tokens after = tokens ≡ print_value v (print_more_values vs after)
Goes awaited.Digits trees tokens after =
    (digits : List ℕ) × (vs : ValueTrees) × (trees ≡ tree (written_number true digits) vs)
    × (tokens ≡ number digits ∷ print_more_values vs after)
Goes awaited.Separator trees tokens after = tokens ≡ print_more_values trees after

-- values that may stand where so many lists are open
record Fit (open_count : ℕ) (trees : ValueTrees) : Type 0 where
  numbers : FitNumbers trees
  nested : open_count + nestings trees ≤ max_nesting
  light : AreLight (values_at trees)

-- The tokens bring each open list, and the values, to their ends, and these values and tokens come of it.
data Completes (result : List Value) (rest : List Token) : List Value → List (List Value) → Awaited → List Token
    → Type 0 where
  ends : (values : List Value) (next : Awaited) (tokens : List Token) (trees : ValueTrees) →
      Goes next trees tokens (mark (codes ";") ∷ rest) → Fit 0 trees → values ++ values_at trees ≡ result →
      Completes result rest values [] next tokens
  closes : (values inner : List Value) (outer : List (List Value)) (next : Awaited) (tokens after : List Token)
      (trees : ValueTrees) →
      Goes next trees tokens (mark (codes "]") ∷ after) → Fit (1 + length outer) trees →
      list_weight (value_list (inner ++ values_at trees)) ≤ max_weight →
      Completes result rest (grow_values (list (value_list (inner ++ values_at trees)) ∷ []) values outer)
      (grow_open (list (value_list (inner ++ values_at trees)) ∷ []) outer) awaited.Separator after →
      Completes result rest values (inner ∷ outer) next tokens

-- one more value in front of the rest of its list
prepend : (result : List Value) (rest : List Token) (v : ValueTree) (values : List Value) (lists : List (List Value))
    (next : Awaited) (tokens after : List Token)
    → FitsNumbers v → length lists + nesting v ≤ max_nesting → weight (value_at v) ≤ max_weight
    → ((vs : ValueTrees) (x : List Token) → after ≡ print_more_values vs x → Goes next (tree v vs) tokens x)
    → Completes result rest (grow_values (value_at v ∷ []) values lists) (grow_open (value_at v ∷ []) lists)
    awaited.Separator after
    → Completes result rest values lists next tokens
prepend result rest v values [] next tokens after numbers nested light goes (ends _ _ _ trees g fit is) =
    ends values next tokens (tree v trees) (goes trees (mark (codes ";") ∷ rest) g)
    (record {
      numbers = (numbers, fit.numbers);
      nested = omega (arith, nested, fit.nested);
      light = (light, fit.light);
    })
    (sym (append_assoc values (value_at v ∷ []) (values_at trees)) ∙ is)
prepend result rest v values (inner ∷ outer) next tokens after numbers nested light goes
    (closes _ _ _ _ _ behind trees g fit small more) =
    let together = append_assoc inner (value_at v ∷ []) (values_at trees) in
    closes values inner outer next tokens behind (tree v trees) (goes trees (mark (codes "]") ∷ behind) g)
    (record {
      numbers = (numbers, fit.numbers);
      nested = omega (arith, nested, fit.nested);
      light = (light, fit.light);
    })
    (rw together at small) (rw together at more)

goes-value : (next : Awaited) (v : ValueTree) (vs : ValueTrees) (tokens x : List Token) → awaits_value next ≡ true
    → tokens ≡ print_value v (print_more_values vs x) → Goes next (tree v vs) tokens x
goes-value awaited.FirstValue v vs tokens x awaits is = is
goes-value awaited.NextValue v vs tokens x awaits is = is
goes-value awaited.Digits v vs tokens x awaits is = absurd (cc)
goes-value awaited.Separator v vs tokens x awaits is = absurd (cc)

goes-none : (next : Awaited) (tokens : List Token) → may_end next ≡ true → Goes next no_trees tokens tokens
goes-none awaited.FirstValue tokens may = refl
goes-none awaited.NextValue tokens may = absurd (cc)
goes-none awaited.Digits tokens may = absurd (cc)
goes-none awaited.Separator tokens may = refl

goes-comma : (tokens : List Token) (vs : ValueTrees) (x : List Token) → Goes awaited.NextValue vs tokens x
    → Goes awaited.Separator vs (mark (codes ",") ∷ tokens) x
goes-comma tokens no_trees x g = absurd g
goes-comma tokens (tree v vs) x g = ap (λ t. mark (codes ",") ∷ t) g

goes-minus : (next : Awaited) (tokens : List Token) → awaits_value next ≡ true → (vs : ValueTrees) (x : List Token)
    → Goes awaited.Digits vs tokens x → Goes next vs (mark (codes "-") ∷ tokens) x
goes-minus next tokens awaits vs x (digits, more, is, g) =
    rw is (goes-value next (written_number true digits) more (mark (codes "-") ∷ tokens) x awaits
    (ap (λ t. mark (codes "-") ∷ t) g))

-- other tokens that go on with the same rest of the list
other-goes : (result : List Value) (rest : List Token) (values : List Value) (lists : List (List Value))
    (next other : Awaited) (tokens more : List Token)
    → ((vs : ValueTrees) (x : List Token) → Goes next vs tokens x → Goes other vs more x)
    → Completes result rest values lists next tokens → Completes result rest values lists other more
other-goes result rest values [] next other tokens more goes (ends _ _ _ trees g fit is) =
    ends values other more trees (goes trees (mark (codes ";") ∷ rest) g) fit is
other-goes result rest values (inner ∷ outer) next other tokens more goes
    (closes _ _ _ _ _ behind trees g fit small h) =
    closes values inner outer other more behind trees (goes trees (mark (codes "]") ∷ behind) g) fit small h

-- the lists that are open are few and light
record IsSafe (lists : List (List Value)) : Type 0 where
  light : AreLightLists lists
  few : length lists ≤ max_nesting

-- what a token that was taken does
record Took (result : List Value) (rest : List Token) (token : Token) (before after : ReadValues) : Type 0 where
  safe : IsSafe after.open_lists
  back : (tokens : List Token) → Completes result rest after.values after.open_lists after.next tokens
      → Completes result rest before.values before.open_lists before.next (token ∷ tokens)

-- a value that was put by one token
put-took : (result : List Value) (rest : List Token) (token : Token) (v : ValueTree) (values : List Value)
    (lists : List (List Value)) (next : Awaited) (r : ReadValues)
    → IsSafe lists → FitsNumbers v → length lists + nesting v ≤ max_nesting → weight (value_at v) ≤ max_weight
    → ((vs : ValueTrees) (tokens x : List Token) → tokens ≡ print_more_values vs x
    → Goes next (tree v vs) (token ∷ tokens) x)
    → put_into (value_at v) values lists ≡ Some r
    → Took result rest token (state values lists next) r
put-took result rest token v values lists next r safe numbers nested light goes is =
    let w = was-put (value_at v) values lists r is safe.light in
    rw w.0 (record {
      safe = record { light = w.1; few = rw (grow_open-length (value_at v ∷ []) lists) safe.few };
      back = λ tokens more.
          prepend result rest v values lists next (token ∷ tokens) tokens numbers nested light
          (λ vs x. goes vs tokens x) more;
    })

-- a number without `-`
number-took : (result : List Value) (rest : List Token) (digits : List ℕ) (values : List Value)
    (lists : List (List Value)) (next : Awaited) (r : ReadValues) → IsSafe lists → awaits_value next ≡ true
    → put_number false digits (state values lists next) ≡ Some r
    → Took result rest (number digits) (state values lists next) r
number-took result rest digits values lists next r safe awaits is =
    let kept = only_if-some (nat_le (digits_value 10 digits) (largest false))
    (put_into (int (signed false (digits_value 10 digits))) values lists) r is in
    put-took result rest (number digits) (written_number false digits) values lists next r safe
    (leb-true (digits_value 10 digits) (largest false) kept.0) (omega (arith, safe.few)) (omega arith)
    (λ vs tokens x h. goes-value next (written_number false digits) vs (number digits ∷ tokens) x awaits
    (ap (λ t. number digits ∷ t) h))
    kept.1

-- the digits behind `-`
digits-took : (result : List Value) (rest : List Token) (digits : List ℕ) (values : List Value)
    (lists : List (List Value)) (r : ReadValues) → IsSafe lists
    → put_number true digits (state values lists awaited.Digits) ≡ Some r
    → Took result rest (number digits) (state values lists awaited.Digits) r
digits-took result rest digits values lists r safe is =
    let kept = only_if-some (nat_le (digits_value 10 digits) (largest true))
    (put_into (int (signed true (digits_value 10 digits))) values lists) r is in
    put-took result rest (number digits) (written_number true digits) values lists awaited.Digits r safe
    (leb-true (digits_value 10 digits) (largest true) kept.0) (omega (arith, safe.few)) (omega arith)
    (λ vs tokens x h. (digits, vs, refl, ap (λ t. number digits ∷ t) h))
    kept.1

take_digits-took : (result : List Value) (rest : List Token) (digits : List ℕ) (values : List Value)
    (lists : List (List Value)) (next : Awaited) (r : ReadValues) → IsSafe lists
    → take_digits next digits (state values lists next) ≡ Some r
    → Took result rest (number digits) (state values lists next) r
take_digits-took result rest digits values lists awaited.FirstValue r safe is =
    number-took result rest digits values lists awaited.FirstValue r safe refl is
take_digits-took result rest digits values lists awaited.NextValue r safe is =
    number-took result rest digits values lists awaited.NextValue r safe refl is
take_digits-took result rest digits values lists awaited.Digits r safe is =
    digits-took result rest digits values lists r safe is
take_digits-took result rest digits values lists awaited.Separator r safe is = absurd (cc)

-- a truth value
truth-took : (result : List Value) (rest : List Token) (b : Bool) (text : List ℕ) (values : List Value)
    (lists : List (List Value)) (next : Awaited) (r : ReadValues) → IsSafe lists → awaits_value next ≡ true
    → ((x : List Token) → word text ∷ x ≡ print_value (written_truth b) x)
    → put_into (truth b) values lists ≡ Some r
    → Took result rest (word text) (state values lists next) r
truth-took result rest b text values lists next r safe awaits printed is =
    put-took result rest (word text) (written_truth b) values lists next r safe tt (omega (arith, safe.few))
    (omega arith)
    (λ vs tokens x h. goes-value next (written_truth b) vs (word text ∷ tokens) x awaits
    (printed tokens ∙ ap (λ t. print_value (written_truth b) t) h))
    is

same_text : (text wanted : List ℕ) → bytes_eq text wanted ≡ true → text ≡ wanted
same_text text wanted same = (bytes_eq-Decides text wanted).0 same

take_word-took : (result : List Value) (rest : List Token) (text : List ℕ) (values : List Value)
    (lists : List (List Value)) (next : Awaited) (r : ReadValues) → IsSafe lists → awaits_value next ≡ true
    → take_word text (state values lists next) ≡ Some r
    → Took result rest (word text) (state values lists next) r
take_word-took result rest text values lists next r safe awaits is =
    elim (cases_Bool (bytes_eq text (codes "true"))) [
      | inl here ↦ truth-took result rest true text values lists next r safe awaits
          (λ x. rw (same_text text (codes "true") here) refl) (rw here at is)
      | inr not_true ↦ elim (cases_Bool (bytes_eq text (codes "false"))) [
        | inl here ↦ truth-took result rest false text values lists next r safe awaits
            (λ x. rw (same_text text (codes "false") here) refl) (rw (not_true, here) at is)
        | inr other ↦ let none = rw (not_true, other) at is in absurd (cc)
      ]
    ]

-- a list that begins is a value where it ends
open-back : (result : List Value) (rest : List Token) (values : List Value) (lists : List (List Value))
    (next : Awaited) (tokens : List Token) → awaits_value next ≡ true
    → Completes result rest values ([] ∷ lists) awaited.FirstValue tokens
    → Completes result rest values lists next (mark (codes "[") ∷ tokens)
open-back result rest values lists next tokens awaits (closes _ _ _ _ _ after trees g fit small more) =
    prepend result rest (written_list trees) values lists next (mark (codes "[") ∷ tokens) after fit.numbers
    (omega (arith, fit.nested)) small
    (λ vs x h. goes-value next (written_list trees) vs (mark (codes "[") ∷ tokens) x awaits
    (rw (g, h) refl))
    more

-- a list that begins
open-took : (result : List Value) (rest : List Token) (values : List Value) (lists : List (List Value))
    (next : Awaited) (r : ReadValues) → IsSafe lists → awaits_value next ≡ true
    → open_list (state values lists next) ≡ Some r
    → Took result rest (mark (codes "[")) (state values lists next) r
open-took result rest values lists next r safe awaits is =
    let kept = only_if-some (nat_lt (length lists) max_nesting)
    (Some (state values ([] ∷ lists) awaited.FirstValue)) r is in
    let same : r ≡ state values ([] ∷ lists) awaited.FirstValue = cc kept.1 in
    let room = ltb-true (length lists) max_nesting kept.0 in
    rw same (record {
      safe = record { light = (omega arith, safe.light); few = omega (arith, room) };
      back = λ tokens more. open-back result rest values lists next tokens awaits more;
    })

-- a list that ends
close-took : (result : List Value) (rest : List Token) (values : List Value) (lists : List (List Value))
    (next : Awaited) (r : ReadValues) → IsSafe lists → may_end next ≡ true → close_list values lists ≡ Some r
    → Took result rest (mark (codes "]")) (state values lists next) r
close-took result rest values [] next r safe may is = absurd (cc)
close-took result rest values (inner ∷ outer) next r safe may is =
    let w = was-put (list (value_list inner)) values outer r is safe.light.1 in
    rw w.0 (record {
      safe = record {
        light = w.1;
        few = omega (arith, grow_open-length (list (value_list inner) ∷ []) outer, safe.few);
      };
      back = λ tokens more.
          closes values inner outer next (mark (codes "]") ∷ tokens) tokens no_trees
          (goes-none next (mark (codes "]") ∷ tokens) may)
          (record { numbers = tt; nested = omega (arith, safe.few); light = tt }) (rw append-nil safe.light.0)
          (rw append-nil more);
    })

-- a comma
comma-took : (result : List Value) (rest : List Token) (values : List Value) (lists : List (List Value))
    (next : Awaited) (r : ReadValues) → IsSafe lists → take_comma next (state values lists next) ≡ Some r
    → Took result rest (mark (codes ",")) (state values lists next) r
comma-took result rest values lists awaited.FirstValue r safe is = absurd (cc)
comma-took result rest values lists awaited.NextValue r safe is = absurd (cc)
comma-took result rest values lists awaited.Digits r safe is = absurd (cc)
comma-took result rest values lists awaited.Separator r safe is =
    let same : r ≡ state values lists awaited.NextValue = cc is in
    rw same (record {
      safe = safe;
      back = λ tokens more.
          other-goes result rest values lists awaited.NextValue awaited.Separator tokens (mark (codes ",") ∷ tokens)
          (goes-comma tokens) more;
    })

-- `-`
minus-took : (result : List Value) (rest : List Token) (values : List Value) (lists : List (List Value))
    (next : Awaited) (r : ReadValues) → IsSafe lists → awaits_value next ≡ true
    → Some (state values lists awaited.Digits) ≡ Some r
    → Took result rest (mark (codes "-")) (state values lists next) r
minus-took result rest values lists next r safe awaits is =
    let same : r ≡ state values lists awaited.Digits = cc is in
    rw same (record {
      safe = safe;
      back = λ tokens more.
          other-goes result rest values lists awaited.Digits next tokens (mark (codes "-") ∷ tokens)
          (goes-minus next tokens awaits) more;
    })

-- any byte that was taken
take_mark-took : (result : List Value) (rest : List Token) (b : ℕ) (values : List Value) (lists : List (List Value))
    (next : Awaited) (r : ReadValues) → IsSafe lists → take_mark b (state values lists next) ≡ Some r
    → Took result rest (mark (b ∷ [])) (state values lists next) r
take_mark-took result rest b values lists next r safe is = elim (cases_Bool (b == 91)) [
  | inl opens ↦
      let kept = only_if-some (awaits_value next) (open_list (state values lists next)) r (rw opens at is) in
      rw (eqb-true b 91 opens) (open-took result rest values lists next r safe kept.0 kept.1)
  | inr not_open ↦ elim (cases_Bool (b == 45)) [
    | inl minus ↦
        let kept = only_if-some (awaits_value next) (Some (state values lists awaited.Digits)) r
        (rw (not_open, minus) at is) in
        rw (eqb-true b 45 minus) (minus-took result rest values lists next r safe kept.0 kept.1)
    | inr not_minus ↦ elim (cases_Bool (b == 93)) [
      | inl closed ↦
          let kept = only_if-some (may_end next) (close_list values lists) r
          (rw (not_open, not_minus, closed) at is) in
          rw (eqb-true b 93 closed) (close-took result rest values lists next r safe kept.0 kept.1)
      | inr not_closed ↦ elim (cases_Bool (b == 44)) [
        | inl comma ↦
            let kept : take_comma next (state values lists next) ≡ Some r =
            rw (not_open, not_minus, not_closed, comma) at is in
            rw (eqb-true b 44 comma) (comma-took result rest values lists next r safe kept)
        | inr other ↦ let none = rw (not_open, not_minus, not_closed, other) at is in absurd (cc)
      ]
    ]
  ]
]

-- any token that was taken
took : (result : List Value) (rest : List Token) (token : Token) (values : List Value) (lists : List (List Value))
    (next : Awaited) (r : ReadValues) → IsSafe lists → take_token token (state values lists next) ≡ Some r
    → Took result rest token (state values lists next) r
took result rest (word text) values lists next r safe is =
    let kept = only_if-some (awaits_value next) (take_word text (state values lists next)) r is in
    take_word-took result rest text values lists next r safe kept.0 kept.1
took result rest (number digits) values lists next r safe is =
    take_digits-took result rest digits values lists next r safe is
took result rest (mark []) values lists next r safe is = absurd (cc)
took result rest (mark (b ∷ [])) values lists next r safe is = take_mark-took result rest b values lists next r safe is
took result rest (mark (b ∷ c ∷ bytes)) values lists next r safe is = absurd (cc)

-- the parts of what is read
abbrev given_values : Option (List Value × List Token) → List Value
given_values None = []
given_values (Some given) = given.0

abbrev given_tokens : Option (List Value × List Token) → List Token
given_tokens None = []
given_tokens (Some given) = given.1

-- the token that ends all
ends-completes : (result : List Value) (rest tokens : List Token) (token : Token) (values : List Value)
    (lists : List (List Value)) (next : Awaited) → ends_values token (state values lists next) ≡ true
    → (let given : Option (List Value × List Token) = Some (values, tokens) in given ≡ Some (result, rest))
    → Completes result rest values lists next (token ∷ tokens)
ends-completes result rest tokens (word text) values lists next end is = absurd (cc)
ends-completes result rest tokens (number digits) values lists next end is = absurd (cc)
ends-completes result rest tokens (mark text) values (inner ∷ outer) next end is =
    let both = and_parts (bytes_eq text (codes ";")) (false && may_end next) end in absurd (cc both.1)
ends-completes result rest tokens (mark text) values [] next end is =
    let both = and_parts (bytes_eq text (codes ";")) (true && may_end next) end in
    let same : text ≡ codes ";" = same_text text (codes ";") both.0 in
    let whole : values ≡ result = ap given_values is in
    let left : tokens ≡ rest = ap given_tokens is in
    ends values next (mark text ∷ tokens) no_trees
    (rw (same, left) (goes-none next (mark (codes ";") ∷ rest) both.1))
    (record { numbers = tt; nested = omega arith; light = tt }) (append-nil values ∙ whole)

-- what was read completes what was open
completes : (result : List Value) (rest tokens : List Token) (values : List Value) (lists : List (List Value))
    (next : Awaited) → IsSafe lists → read_values (state values lists next) tokens ≡ Some (result, rest)
    → Completes result rest values lists next tokens
completes result rest [] values lists next safe is = absurd (cc)
completes result rest (token ∷ tokens) values lists next safe is =
    elim (cases_Bool (ends_values token (state values lists next))) [
      | inl end ↦ ends-completes result rest tokens token values lists next end (rw end at is)
      | inr goes ↦
          let s = and_then-some (take_token token (state values lists next)) (λ r. read_values r tokens) (result, rest)
          (rw goes at is) in
          let t = took result rest token values lists next s.0 safe s.1 in
          t.back tokens (completes result rest tokens s.0.values s.0.open_lists s.0.next t.safe s.2)
    ]

-- values that fit are valid
fit-valid : (vs : ValueTrees) → FitNumbers vs → nestings vs ≤ max_nesting → AreLight (values_at vs)
    → AreValidValues vs
fit-valid no_trees numbers nested light = tt
fit-valid (tree v vs) numbers nested light = (
  record { numbers = numbers.0; nested = omega (arith, nested); light = light.0 },
  fit-valid vs numbers.1 (omega (arith, nested)) light.1,
)

-- how values stand in tokens, up to `;`, before others
pub record AreWritten (tokens : List Token) (values : List Value) (rest : List Token) : Type 0 where
  pub trees : ValueTrees
  pub printed : tokens ≡ print_values trees (mark (codes ";") ∷ rest)
  pub valid : AreValidValues trees
  pub are : values_at trees ≡ values

completed : (values : List Value) (rest tokens : List Token) → Completes values rest [] [] awaited.FirstValue tokens
    → AreWritten tokens values rest
completed values rest tokens (ends _ _ _ trees g fit is) = record {
  trees = trees;
  printed = g;
  valid = fit-valid trees fit.numbers (omega (arith, fit.nested)) fit.light;
  are = is;
}

-- what is read as values is written so, and valid
pub read_are_written : (values : List Value) (rest tokens : List Token)
    → read_values nothing_read tokens ≡ Some (values, rest) → AreWritten tokens values rest
read_are_written values rest tokens is =
    completed values rest tokens
    (completes values rest tokens [] [] awaited.FirstValue (record { light = tt; few = omega arith }) is)

-- values are written in one way
pub written_once : (vs ws : ValueTrees) (after behind : List Token) → AreValidValues vs → AreValidValues ws
    → print_values vs (mark (codes ";") ∷ after) ≡ print_values ws (mark (codes ";") ∷ behind)
    → (values_at vs ≡ values_at ws) × (after ≡ behind)
written_once vs ws after behind valid sound same =
    let both = sym (values_are_read vs after valid) ∙ ap (read_values nothing_read) same
    ∙ values_are_read ws behind sound in
    (ap given_values both, ap given_tokens both)

-- what is read as values is no other
pub read_once : (vs : ValueTrees) (after tokens rest : List Token) (values : List Value) → AreValidValues vs
    → tokens ≡ print_values vs (mark (codes ";") ∷ after) → read_values nothing_read tokens ≡ Some (values, rest)
    → after ≡ rest
read_once vs after tokens rest values valid printed is =
    ap given_tokens (sym (values_are_read vs after valid) ∙ ap (read_values nothing_read) (sym printed) ∙ is)

-- nothing is read only where no values stand
pub not_read : (vs : ValueTrees) (after tokens : List Token) → AreValidValues vs
    → tokens ≡ print_values vs (mark (codes ";") ∷ after) → ¬ (read_values nothing_read tokens ≡ None)
not_read vs after tokens valid printed = λ none.
    let some = sym (values_are_read vs after valid) ∙ ap (read_values nothing_read) (sym printed) ∙ none in cc
