-- How values are written.
use Rattle.std.specs.Prelude.{ℕ, List, [], ◌++◌, codes, if◌then◌else◌}
use Rattle.std.specs.Fmt.{signed_decimal}
use Rattle.nomos_ir.specs.Value.{Value, ValueList, int, truth, list, no_values, value}

abbrev mutual
  -- in decimal, as `true` or `false`, or as `[a,b]`
  pub value_text : Value → List ℕ
  value_text (int z) = signed_decimal z
  value_text (truth b) = if b then codes "true" else codes "false"
  value_text (list vs) = codes "[" ++ row_text vs ++ codes "]"

  -- values, with a comma between one and the next
  pub row_text : ValueList → List ℕ
  row_text no_values = []
  row_text (value v vs) = value_text v ++ tail_text vs

  -- values, with a comma before each
  pub tail_text : ValueList → List ℕ
  tail_text no_values = []
  tail_text (value v vs) = codes "," ++ value_text v ++ tail_text vs
