-- The weight of lists that get longer.
use Rattle.std.proofs.Common.{◌≡◌, ◌+◌, List, [], ◌∷◌, ◌++◌, arith}
use Rattle.nomos_ir.specs.Value.{Value, value_list}
use Rattle.nomos_ir.specs.Weight.{weight, list_weight}

pub weight-append : (vs ws : List Value)
    → list_weight (value_list (vs ++ ws)) ≡ list_weight (value_list vs) + list_weight (value_list ws)
weight-append [] ws = omega arith
weight-append (v ∷ vs) ws = omega (arith, weight-append vs ws)

-- one more value
pub weight-push : (vs : List Value) (v : Value)
    → list_weight (value_list (vs ++ v ∷ [])) ≡ list_weight (value_list vs) + weight v + 1
weight-push vs v = omega (arith, weight-append vs (v ∷ []))
