-- Sums of amounts times coefficients, taken one place at a time, and how large they are.
use Rattle.std.proofs.Common.{◌≡◌, ℕ, zero, suc, ◌+◌, ◌<◌, List, [], ◌∷◌, length, get_or, take, ap, sym, ◌∙◌, arith, ℤ, pos, ◌+ℤ◌, ◌*ℤ◌, add-one}
use Rattle.std.proofs.lemmas.Int.{ints}
use Rattle.std.proofs.Math.IntN.{+ℤ_assoc}
use Rattle.nomos_forms.specs.Linear.{dot}

-- one place more
pub dot_more : (cs : List ℤ) (xs : List ℕ) (k : ℕ) → k < length cs → k < length xs → dot (take (k + 1) cs) (take
    (k + 1) xs) ≡ dot (take k cs) (take k xs) +ℤ pos (get_or xs k 0) *ℤ get_or cs k (pos 0)
dot_more [] xs k h i = absurd (omega arith)
dot_more (c ∷ cs) [] k h i = absurd (omega arith)
dot_more (c ∷ cs) (x ∷ xs) zero h i = omega (arith, ints)
dot_more (c ∷ cs) (x ∷ xs) (suc k) h i = let more = dot_more cs xs k (omega arith) (omega arith) in
    rw add-one (ap (λ z. pos x *ℤ c +ℤ z) (rw add-one at more) ∙ sym (+ℤ_assoc (pos x *ℤ c) (dot (take k cs)
    (take k xs)) (pos (get_or xs k 0) *ℤ get_or cs k (pos 0))))
