-- Weights that show a goal least: no amounts over any unit that meet the rows have a smaller goal.
use Rattle.std.proofs.Common.{◌≡◌, ℕ, ◌+◌, ◌*◌, ◌<◌, ◌≤◌, List, [], ◌∷◌, length, ap, sym, subst, ◌∙◌, arith, ℤ, pos, ◌+ℤ◌, ◌-ℤ◌, ◌*ℤ◌, ◌≤ℤ◌, All, suc}
use Rattle.std.proofs.lemmas.Int.{ints}
use Rattle.std.proofs.Math.IntN.{*ℤ-zero}
use Rattle.nomos_forms.specs.Bounds.{IsRow}
use Rattle.nomos_forms.specs.Linear.{dot, form_value}
use Rattle.nomos_forms.specs.Refuting.{coef_in, least_in, weighted}
use Rattle.nomos_forms.specs.declared.form.Form.{Form}
use Rattle.nomos_forms.specs.declared.row.Row.{Row}
use Rattle.nomos_forms.proofs.CertificateLaws.{value_in, spread, spread_row, weighted_value, low_sum_of}
use Rattle.nomos_forms.proofs.WholeLaws.{times_sum, times_swap, count_times_le, less_by_times}
use Rattle.nomos_simplex.proofs.SumLemmas.{times_minus}
use Rattle.nomos_simplex.specs.ShowsLeast.{goal_coef, ShowsLeast, NoneSmaller}
use Rattle.nomos_simplex.specs.declared.solved.Proof.{Proof}

-- the weights come to scale times the goal's coefficients
spread_scaled : (t : ℤ) (f g : ℕ → ℤ) (s : ℕ) (xs : List ℕ) →
    ((k : ℕ) → s ≤ k → k < s + length xs → f k ≡ t *ℤ g k) → spread f s xs ≡ t *ℤ spread g s xs
spread_scaled t f g s [] h = sym (*ℤ-zero t)
spread_scaled t f g s (x ∷ xs) h =
    let one : pos x *ℤ f s ≡ t *ℤ (pos x *ℤ g s) = ap (λ z. pos x *ℤ z) (h s (omega arith) (omega arith))
    ∙ times_swap (pos x) t (g s) in
    let rest = spread_scaled t f g (suc s) xs (λ k i j. h k (omega arith) (omega arith)) in
    (λ p. one p +ℤ rest p) ∙ sym (times_sum t (pos x *ℤ g s) (spread g (suc s) xs))

-- the certificate
above_zero : (a b c d e : ℤ) → a ≡ c -ℤ d → a ≤ℤ b → e ≡ b +ℤ d → c ≤ℤ e
above_zero a b c d e h i j = omega (arith, ints)

-- what the weights come to under amounts
weights_value : (rows : List Row) (goal : Form) (unit : ℕ) (proof : Proof) (xs : List ℕ) →
    length xs ≡ length goal.coefs → All (IsRow (length goal.coefs)) rows → ShowsLeast rows goal unit proof →
    weighted (value_in xs) proof.weights ≡ pos proof.scale *ℤ dot goal.coefs xs
weights_value rows goal unit proof xs w each s =
    weighted_value (length goal.coefs) rows xs proof.weights w each s.of
    ∙ spread_scaled (pos proof.scale) (λ k. weighted (coef_in k) proof.weights) (goal_coef goal) 1 xs
    (λ k i j. s.stars k i (omega arith))
    ∙ ap (λ z. pos proof.scale *ℤ z) (sym (spread_row goal.coefs 1 xs))

pub none_smaller : (rows : List Row) (goal : Form) (unit : ℕ) (proof : Proof) → All (IsRow (length goal.coefs)) rows →
    ShowsLeast rows goal unit proof → NoneSmaller rows goal unit proof.total
none_smaller rows goal unit proof each s xs other w over meets =
    let n = length goal.coefs in
    let sum = weighted least_in proof.weights in
    let value = dot goal.coefs xs in
    let gap = pos proof.total -ℤ pos unit *ℤ goal.plus in
    let low : (pos other *ℤ sum) ≤ℤ (pos proof.scale *ℤ value) =
    subst (λ z. (pos other *ℤ sum) ≤ℤ z) (weights_value rows goal unit proof xs w each s)
    (low_sum_of n rows xs other proof.weights meets s.of) in
    let more : (pos unit *ℤ (pos other *ℤ sum)) ≤ℤ (pos unit *ℤ (pos proof.scale *ℤ value)) =
    count_times_le unit (pos other *ℤ sum) (pos proof.scale *ℤ value) low in
    let left : pos unit *ℤ (pos other *ℤ sum) ≡ pos proof.scale *ℤ (pos other *ℤ gap) =
    times_swap (pos unit) (pos other) sum ∙ ap (λ z. pos other *ℤ z) s.total
    ∙ times_swap (pos other) (pos proof.scale) gap in
    let scaled : (pos proof.scale *ℤ (pos other *ℤ gap)) ≤ℤ (pos proof.scale *ℤ (pos unit *ℤ value)) =
    subst (λ z. z ≤ℤ (pos proof.scale *ℤ (pos unit *ℤ value))) left
    (subst (λ z. (pos unit *ℤ (pos other *ℤ sum)) ≤ℤ z) (times_swap (pos unit) (pos proof.scale) value) more) in
    let least = less_by_times proof.scale (pos other *ℤ gap) (pos unit *ℤ value) s.scale scaled in
    above_zero (pos other *ℤ gap) (pos unit *ℤ value) (pos (other * proof.total))
    (pos unit *ℤ (pos other *ℤ goal.plus)) (pos unit *ℤ form_value xs other goal)
    (times_minus (pos other) (pos proof.total) (pos unit *ℤ goal.plus)
    ∙ ap (λ z. pos (other * proof.total) -ℤ z) (times_swap (pos other) (pos unit) goal.plus))
    least (times_sum (pos unit) value (pos other *ℤ goal.plus))
