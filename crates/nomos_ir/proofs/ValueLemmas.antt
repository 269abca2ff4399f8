-- Lists of values that are one value.
use Rattle.std.proofs.Common.{◌≡◌, List, [], ◌∷◌, refl}
use Rattle.nomos_ir.specs.Value.{Value, ValueList, list, value, value_list}

same-list : (vs ws : ValueList) → list vs ≡ list ws → vs ≡ ws
same-list vs ws same = cc

-- a list of values is told by its value
pub value_list_tells : (vs ws : List Value) → list (value_list vs) ≡ list (value_list ws) → vs ≡ ws
value_list_tells vs ws same = at vs ws (same-list (value_list vs) (value_list ws) same)
  where
    at : (vs ws : List Value) → value_list vs ≡ value_list ws → vs ≡ ws
    at [] [] same = refl
    at [] (w ∷ ws) same = absurd cc
    at (v ∷ vs) [] same = absurd cc
    at (v ∷ vs) (w ∷ ws) same = both (first same) (at vs ws (rest same))
      where
        first : value v (value_list vs) ≡ value w (value_list ws) → v ≡ w
        first e = cc

        rest : value v (value_list vs) ≡ value w (value_list ws) → value_list vs ≡ value_list ws
        rest e = cc

        both : v ≡ w → vs ≡ ws → v ∷ vs ≡ w ∷ ws
        both e f = cc
