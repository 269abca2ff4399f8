-- Values as they are written in a script, how they are printed to tokens, what they are, and which of them are valid.
use Rattle.std.specs.Prelude.{ℕ, ◌+◌, ◌-◌, ◌^◌, ◌≤◌, max, ℤ, pos, neg_ℤ, Bool, true, false, List, [], ◌∷◌, codes}
use Rattle.std.specs.Str.Parse.{digits_value}
use Rattle.nomos_ir.specs.Value.{Value, int, truth, list, value_list}
use Rattle.nomos_ir.specs.Weight.{weight, max_weight}
use Rattle.nomos_script.specs.ScriptScan.{Token, word, number, mark}

-- value = [ "-" ] NUMBER | "true" | "false" | "[" [ value { "," value } ] "]"
mutual
  pub data ValueTree : Type 0 where
    -- digits, with `-` before them or without it
    written_number : (minus : Bool) → (digits : List ℕ) → ValueTree
    written_truth : (b : Bool) → ValueTree
    written_list : ValueTrees → ValueTree

  pub data ValueTrees : Type 0 where
    no_trees : ValueTrees
    tree : ValueTree → ValueTrees → ValueTrees

-- the tokens of a number before others
abbrev pub print_number : Bool → List ℕ → List Token → List Token
print_number true digits after = mark (codes "-") ∷ number digits ∷ after
print_number false digits after = number digits ∷ after

-- the token of a truth value before others
abbrev pub print_truth : Bool → List Token → List Token
print_truth true after = word (codes "true") ∷ after
print_truth false after = word (codes "false") ∷ after

abbrev mutual
  -- the tokens of a value before others
  pub print_value : ValueTree → List Token → List Token
  print_value (written_number minus digits) after = print_number minus digits after
  print_value (written_truth b) after = print_truth b after
  print_value (written_list vs) after = mark (codes "[") ∷ print_values vs (mark (codes "]") ∷ after)

  -- values, with a comma before each but the first
  pub print_values : ValueTrees → List Token → List Token
  print_values no_trees after = after
  print_values (tree v vs) after = print_value v (print_more_values vs after)

  -- values, with a comma before each one
  pub print_more_values : ValueTrees → List Token → List Token
  print_more_values no_trees after = after
  print_more_values (tree v vs) after = mark (codes ",") ∷ print_value v (print_more_values vs after)

-- the number that digits write in decimal, with `-` before them or without it
abbrev pub signed : Bool → ℕ → ℤ
signed true n = neg_ℤ (pos n)
signed false n = pos n

-- what is written
abbrev mutual
  pub value_at : ValueTree → Value
  value_at (written_number minus digits) = int (signed minus (digits_value 10 digits))
  value_at (written_truth b) = truth b
  value_at (written_list vs) = list (value_list (values_at vs))

  pub values_at : ValueTrees → List Value
  values_at no_trees = []
  values_at (tree v vs) = value_at v ∷ values_at vs

-- the largest number that 64 bits hold, without `-` before it and behind one
abbrev pub largest : Bool → ℕ
largest true = 2 ^ 63
largest false = 2 ^ 63 - 1

-- each number has 64 bits with its sign
abbrev mutual
  pub FitsNumbers : ValueTree → Type 0
  FitsNumbers (written_number minus digits) = digits_value 10 digits ≤ largest minus
  FitsNumbers (written_truth b) = Unit {0}
  FitsNumbers (written_list vs) = FitNumbers vs

  pub FitNumbers : ValueTrees → Type 0
  FitNumbers no_trees = Unit {0}
  FitNumbers (tree v vs) = FitsNumbers v × FitNumbers vs

-- how many lists stand in one another
abbrev mutual
  pub nesting : ValueTree → ℕ
  nesting (written_number minus digits) = 0
  nesting (written_truth b) = 0
  nesting (written_list vs) = 1 + nestings vs

  pub nestings : ValueTrees → ℕ
  nestings no_trees = 0
  nestings (tree v vs) = max (nesting v) (nestings vs)

-- how many lists of a value may stand in one another
abbrev pub max_nesting : ℕ
max_nesting = 64

-- each number fits, at most 64 lists stand in one another, and no list is too heavy
pub record IsValidValue (v : ValueTree) : Type 0 where
  pub numbers : FitsNumbers v
  pub nested : nesting v ≤ max_nesting
  pub light : weight (value_at v) ≤ max_weight

-- each of the values is valid
abbrev pub AreValidValues : ValueTrees → Type 0
AreValidValues no_trees = Unit {0}
AreValidValues (tree v vs) = IsValidValue v × AreValidValues vs
