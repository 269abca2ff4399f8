-- The weight of values.
use Rattle.std.specs.Prelude.{◌+◌, ℕ}
use Rattle.nomos_ir.specs.Value.{Value, int, truth, list, ValueList, no_values, value}

-- the weight of a list is the sum over its elements of 1 and the element's weight
abbrev mutual
  pub weight : Value → ℕ
  weight (int z) = 0
  weight (truth b) = 0
  weight (list vs) = list_weight vs

  pub list_weight : ValueList → ℕ
  list_weight no_values = 0
  list_weight (value v vs) = 1 + weight v + list_weight vs

-- how heavy a list may be that a term makes
abbrev pub max_weight : ℕ
max_weight = 10000
