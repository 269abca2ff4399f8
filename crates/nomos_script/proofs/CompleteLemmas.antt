-- Valid values are read.
use Rattle.std.proofs.Common.{◌≡◌, ℕ, ◌+◌, ◌<◌, ◌≤◌, Bool, true, false, List, [], ◌∷◌, length, Some, codes, refl, ◌∙◌, arith}
use Rattle.std.proofs.lemmas.Bool.{le-leb, lt-ltb}
use Rattle.std.specs.Str.Parse.{digits_value}
use Rattle.nomos_ir.specs.Value.{Value, int, truth, list, value_list}
use Rattle.nomos_ir.specs.Weight.{weight, max_weight}
use Rattle.nomos_script.specs.declared.value_reader.Awaited.{Awaited}
use Rattle.nomos_script.specs.declared.value_reader.Awaited.TheVariants as awaited
use Rattle.nomos_script.specs.ScriptScan.{Token, word, number, mark}
use Rattle.nomos_script.specs.ValueTree.{ValueTree, written_number, written_truth, written_list, ValueTrees, no_trees, tree, print_truth, print_value, print_values, print_more_values, signed, value_at, values_at, largest, FitsNumbers, FitNumbers, nesting, nestings, max_nesting, AreValidValues}
use Rattle.nomos_script.specs.mirror.ValueReading.{nothing_read, awaits_value, may_end, read_values}
use Rattle.nomos_script.proofs.GrowLemmas.{state, grow_values, grow_open, grow_values-nil, grow_open-nil, grow_values-more, grow_open-more, grow_open-length, AreLight, Holds, CanPut, holds-can, holds-light, holds-rest, put-can}
use Rattle.nomos_script.proofs.StepLemmas.{read-ends, read-takes}

-- what may come behind values
abbrev next_behind : ValueTrees → Awaited
next_behind no_trees = awaited.FirstValue
next_behind (tree v vs) = awaited.Separator

may_end-behind : (vs : ValueTrees) → may_end (next_behind vs) ≡ true
may_end-behind no_trees = refl
may_end-behind (tree v vs) = refl

complete_digits : (digits : List ℕ) (values : List Value) (lists : List (List Value)) (next : Awaited)
    (tokens : List Token)
    → awaits_value next ≡ true → digits_value 10 digits ≤ largest false
    → CanPut (int (signed false (digits_value 10 digits))) lists
    → read_values (state values lists next) (number digits ∷ tokens)
    ≡ read_values (state (grow_values (int (signed false (digits_value 10 digits)) ∷ []) values lists)
    (grow_open (int (signed false (digits_value 10 digits)) ∷ []) lists) awaited.Separator) tokens
complete_digits digits values lists awaited.FirstValue tokens awaits fits can =
    read-takes (state values lists awaited.FirstValue) _ (number digits) tokens refl
    (rw (le-leb (digits_value 10 digits) (largest false) fits)
    (put-can (int (signed false (digits_value 10 digits))) values lists can))
complete_digits digits values lists awaited.NextValue tokens awaits fits can =
    read-takes (state values lists awaited.NextValue) _ (number digits) tokens refl
    (rw (le-leb (digits_value 10 digits) (largest false) fits)
    (put-can (int (signed false (digits_value 10 digits))) values lists can))
complete_digits digits values lists awaited.Digits tokens awaits fits can = absurd (cc)
complete_digits digits values lists awaited.Separator tokens awaits fits can = absurd (cc)

complete_minus : (digits : List ℕ) (values : List Value) (lists : List (List Value)) (tokens : List Token)
    → digits_value 10 digits ≤ largest true → CanPut (int (signed true (digits_value 10 digits))) lists
    → read_values (state values lists awaited.Digits) (number digits ∷ tokens)
    ≡ read_values (state (grow_values (int (signed true (digits_value 10 digits)) ∷ []) values lists)
    (grow_open (int (signed true (digits_value 10 digits)) ∷ []) lists) awaited.Separator) tokens
complete_minus digits values lists tokens fits can =
    read-takes (state values lists awaited.Digits) _ (number digits) tokens refl
    (rw (le-leb (digits_value 10 digits) (largest true) fits)
    (put-can (int (signed true (digits_value 10 digits))) values lists can))

-- a minus
takes_minus : (values : List Value) (lists : List (List Value)) (next : Awaited) (tokens : List Token)
    → awaits_value next ≡ true
    → read_values (state values lists next) (mark (codes "-") ∷ tokens)
    ≡ read_values (state values lists awaited.Digits) tokens
takes_minus values lists awaited.FirstValue tokens awaits = refl
takes_minus values lists awaited.NextValue tokens awaits = refl
takes_minus values lists awaited.Digits tokens awaits = absurd (cc)
takes_minus values lists awaited.Separator tokens awaits = absurd (cc)

complete_truth : (b : Bool) (values : List Value) (lists : List (List Value)) (next : Awaited) (tokens : List Token)
    → awaits_value next ≡ true → CanPut (truth b) lists
    → read_values (state values lists next) (print_truth b tokens)
    ≡ read_values (state (grow_values (truth b ∷ []) values lists) (grow_open (truth b ∷ []) lists) awaited.Separator)
    tokens
complete_truth true values lists next tokens awaits can =
    read-takes (state values lists next) _ (word (codes "true")) tokens refl
    (rw awaits (put-can (truth true) values lists can))
complete_truth false values lists next tokens awaits can =
    read-takes (state values lists next) _ (word (codes "false")) tokens refl
    (rw awaits (put-can (truth false) values lists can))

-- a list that begins
takes_open : (values : List Value) (lists : List (List Value)) (next : Awaited) (tokens : List Token)
    → awaits_value next ≡ true → length lists < max_nesting
    → read_values (state values lists next) (mark (codes "[") ∷ tokens)
    ≡ read_values (state values ([] ∷ lists) awaited.FirstValue) tokens
takes_open values lists next tokens awaits deep =
    read-takes (state values lists next) _ (mark (codes "[")) tokens refl
    (rw (awaits, lt-ltb (length lists) max_nesting deep) refl)

-- and ends
takes_close : (values inner : List Value) (lists : List (List Value)) (next : Awaited) (tokens : List Token)
    → may_end next ≡ true → CanPut (list (value_list inner)) lists
    → read_values (state values (inner ∷ lists) next) (mark (codes "]") ∷ tokens)
    ≡ read_values (state (grow_values (list (value_list inner) ∷ []) values lists)
    (grow_open (list (value_list inner) ∷ []) lists) awaited.Separator) tokens
takes_close values inner lists next tokens ends can =
    read-takes (state values (inner ∷ lists) next) _ (mark (codes "]")) tokens refl
    (rw ends (put-can (list (value_list inner)) values lists can))

mutual
  complete_value : (v : ValueTree) (values : List Value) (lists : List (List Value)) (next : Awaited)
      (tokens : List Token)
      → awaits_value next ≡ true → FitsNumbers v → length lists + nesting v ≤ max_nesting
      → weight (value_at v) ≤ max_weight → CanPut (value_at v) lists
      → read_values (state values lists next) (print_value v tokens)
      ≡ read_values (state (grow_values (value_at v ∷ []) values lists) (grow_open (value_at v ∷ []) lists)
      awaited.Separator) tokens
  complete_value (written_number true digits) values lists next tokens awaits fits deep light can =
      takes_minus values lists next (number digits ∷ tokens) awaits
      ∙ complete_minus digits values lists tokens fits can
  complete_value (written_number false digits) values lists next tokens awaits fits deep light can =
      complete_digits digits values lists next tokens awaits fits can
  complete_value (written_truth b) values lists next tokens awaits fits deep light can =
      complete_truth b values lists next tokens awaits can
  complete_value (written_list vs) values lists next tokens awaits fits deep light can =
      takes_open values lists next (print_values vs (mark (codes "]") ∷ tokens)) awaits (omega (arith, deep))
      ∙ complete_values vs values ([] ∷ lists) (mark (codes "]") ∷ tokens) fits (omega (arith, deep)) light
      ∙ takes_close values (values_at vs) lists (next_behind vs) tokens (may_end-behind vs) can

  complete_values : (vs : ValueTrees) (values : List Value) (lists : List (List Value)) (tokens : List Token)
      → FitNumbers vs → length lists + nestings vs ≤ max_nesting → Holds lists (values_at vs)
      → read_values (state values lists awaited.FirstValue) (print_values vs tokens)
      ≡ read_values (state (grow_values (values_at vs) values lists) (grow_open (values_at vs) lists) (next_behind vs))
      tokens
  complete_values no_trees values lists tokens fits deep holds =
      rw (grow_values-nil values lists, grow_open-nil lists) refl
  complete_values (tree v vs) values lists tokens fits deep holds =
      complete_value v values lists awaited.FirstValue (print_more_values vs tokens) refl fits.0 (omega (arith, deep))
      (holds-light (value_at v) (values_at vs) lists holds) (holds-can (value_at v) (values_at vs) lists holds)
      ∙ complete_more vs (grow_values (value_at v ∷ []) values lists) (grow_open (value_at v ∷ []) lists) tokens fits.1
      (omega (arith, deep, grow_open-length (value_at v ∷ []) lists))
      (holds-rest (value_at v) (values_at vs) lists holds)
      ∙ rw (grow_values-more (value_at v) (values_at vs) values lists, grow_open-more (value_at v) (values_at vs) lists)
      refl

  complete_more : (vs : ValueTrees) (values : List Value) (lists : List (List Value)) (tokens : List Token)
      → FitNumbers vs → length lists + nestings vs ≤ max_nesting → Holds lists (values_at vs)
      → read_values (state values lists awaited.Separator) (print_more_values vs tokens)
      ≡ read_values (state (grow_values (values_at vs) values lists) (grow_open (values_at vs) lists) awaited.Separator)
      tokens
  complete_more no_trees values lists tokens fits deep holds =
      rw (grow_values-nil values lists, grow_open-nil lists) refl
  complete_more (tree v vs) values lists tokens fits deep holds =
      complete_value v values lists awaited.NextValue (print_more_values vs tokens) refl fits.0 (omega (arith, deep))
      (holds-light (value_at v) (values_at vs) lists holds) (holds-can (value_at v) (values_at vs) lists holds)
      ∙ complete_more vs (grow_values (value_at v ∷ []) values lists) (grow_open (value_at v ∷ []) lists) tokens fits.1
      (omega (arith, deep, grow_open-length (value_at v ∷ []) lists))
      (holds-rest (value_at v) (values_at vs) lists holds)
      ∙ rw (grow_values-more (value_at v) (values_at vs) values lists, grow_open-more (value_at v) (values_at vs) lists)
      refl

-- valid values hold what all of them must
valid-numbers : (vs : ValueTrees) → AreValidValues vs → FitNumbers vs
valid-numbers no_trees valid = tt
valid-numbers (tree v vs) valid = (valid.0.numbers, valid-numbers vs valid.1)

valid-nested : (vs : ValueTrees) → AreValidValues vs → nestings vs ≤ max_nesting
valid-nested no_trees valid = omega arith
valid-nested (tree v vs) valid = let rest = valid-nested vs valid.1 in omega (arith, rest, valid.0.nested)

valid-light : (vs : ValueTrees) → AreValidValues vs → AreLight (values_at vs)
valid-light no_trees valid = tt
valid-light (tree v vs) valid = (valid.0.light, valid-light vs valid.1)

-- valid values are read, up to `;`
pub values_are_read : (vs : ValueTrees) (tokens : List Token) → AreValidValues vs
    → read_values nothing_read (print_values vs (mark (codes ";") ∷ tokens)) ≡ Some (values_at vs, tokens)
values_are_read vs tokens valid =
    complete_values vs [] [] (mark (codes ";") ∷ tokens) (valid-numbers vs valid)
    (omega (arith, valid-nested vs valid)) (valid-light vs valid)
    ∙ read-ends (state (values_at vs) [] (next_behind vs)) (mark (codes ";")) tokens (may_end-behind vs)
