-- The foremost place, and the lowest, one place more.
use Rattle.std.proofs.Common.{◌≡◌, ℕ, ◌+◌, Bool, true, false, cond, Option, Some, ap, sym, ◌∙◌, add-one}
use Rattle.nomos_simplex.specs.LowestVariable.{former_of, foremost_place}

pub foremost_then : (passes : ℕ → Bool) (is_former : ℕ → ℕ → Bool) (n : ℕ) (before : Option ℕ) (k : ℕ) →
    passes n ≡ true → before ≡ foremost_place passes is_former n → k ≡ former_of is_former n before →
    Some k ≡ foremost_place passes is_former (n + 1)
foremost_then passes is_former n before k pass e is = rw add-one (ap Some (is ∙ ap (former_of is_former n) e)
    ∙ ap (λ b. cond b (Some (former_of is_former n (foremost_place passes is_former n)))
    (foremost_place passes is_former n)) (sym pass))

pub foremost_else : (passes : ℕ → Bool) (is_former : ℕ → ℕ → Bool) (n : ℕ) (before : Option ℕ) → passes n ≡ false →
    before ≡ foremost_place passes is_former n → before ≡ foremost_place passes is_former (n + 1)
foremost_else passes is_former n before pass e = rw add-one (e ∙ ap (λ b. cond b (Some (former_of is_former n
    (foremost_place passes is_former n))) (foremost_place passes is_former n)) (sym pass))
