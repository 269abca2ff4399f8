-- Sums of weighted parts, one weight more.
use Rattle.std.proofs.Common.{◌≡◌, ℕ, zero, suc, ◌+◌, ◌<◌, List, [], ◌∷◌, length, get_or, take, ap, sym, ◌∙◌, arith, ℤ, pos, ◌+ℤ◌, ◌*ℤ◌, add-one}
use Rattle.std.proofs.lemmas.Int.{ints}
use Rattle.std.proofs.Math.IntN.{+ℤ_assoc}
use Rattle.nomos_forms.specs.Refuting.{weighted}
use Rattle.nomos_forms.specs.declared.verdict.Of.{Of}
use Rattle.nomos_forms.specs.declared.verdict.Weight.{Weight}

pub weighted_more : (part : Of → ℤ) (ws : List Weight) (k : ℕ) (d : Weight) → k < length ws →
    weighted part (take (k + 1) ws) ≡ weighted part (take k ws) +ℤ pos (get_or ws k d).times *ℤ part (get_or ws k d).of
weighted_more part [] k d h = absurd (omega arith)
weighted_more part (w ∷ ws) zero d h = omega (arith, ints)
weighted_more part (w ∷ ws) (suc k) d h =
    let more = weighted_more part ws k d (omega arith) in
    rw add-one (ap (λ z. pos w.times *ℤ part w.of +ℤ z) (rw add-one at more)
    ∙ sym (+ℤ_assoc (pos w.times *ℤ part w.of) (weighted part (take k ws)) (pos (get_or ws k d).times *ℤ part
    (get_or ws k d).of)))
