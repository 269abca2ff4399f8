-- Lists by their places.
use Rattle.std.proofs.Common.{◌<◌, ◌≤◌, ℕ, List, [], ◌∷◌, zero, suc, length, get_or, arith}
use Rattle.nomos_ir.specs.Amounts.{greatest}

-- an item is at most the greatest
pub greatest-above : (xs : List ℕ) (k d : ℕ) → k < length xs → get_or xs k d ≤ greatest xs
greatest-above [] k d h = absurd (omega arith)
greatest-above (x ∷ xs) zero d h = omega arith
greatest-above (x ∷ xs) (suc k) d h = omega (arith, greatest-above xs k d (omega arith))
