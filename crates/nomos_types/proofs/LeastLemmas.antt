-- The least of the numbers of which something holds.
use Rattle.std.proofs.Common.{◌≡◌, ◌≤◌, ◌⊎◌, inl, inr, ℕ, Option, Some, None, min, refl, subst, arith}
use Rattle.std.proofs.lemmas.Bool.{cases_lt}
use Rattle.nomos_types.specs.mirror.Least.{IsLeast, lesser}

-- it holds of one number
pub least-one : (at : ℕ) → IsLeast (λ n. n ≡ at) (Some at)
least-one at = (refl, λ n same. omega arith)

module _ (P Q R : ℕ → Type 0) (split : (n : ℕ) → R n → P n ⊎ Q n) (left : (n : ℕ) → P n → R n)
    (right : (n : ℕ) → Q n → R n) where
  -- where the first is the lesser
  first-lesser : (m n : ℕ) → m ≤ n → P m → ((k : ℕ) → P k → m ≤ k) → ((k : ℕ) → Q k → n ≤ k)
      → IsLeast R (Some (min m n))
  first-lesser m n lower p m_least n_least =
      let same : m ≡ min m n = omega arith in
      subst (λ (k : ℕ). IsLeast R (Some k)) same (
        left m p,
        λ k r. elim (split k r)
            [ inl holds ↦ m_least k holds | inr holds ↦ let above = n_least k holds in omega arith ],
      )

  second-lesser : (m n : ℕ) → n ≤ m → Q n → ((k : ℕ) → P k → m ≤ k) → ((k : ℕ) → Q k → n ≤ k)
      → IsLeast R (Some (min m n))
  second-lesser m n lower q m_least n_least =
      let same : n ≡ min m n = omega arith in
      subst (λ (k : ℕ). IsLeast R (Some k)) same (
        right n q,
        λ k r. elim (split k r)
            [ inl holds ↦ let above = m_least k holds in omega arith | inr holds ↦ n_least k holds ],
      )

  -- the least of numbers of two kinds is the lesser of the two least
  pub least-of_two : (a b : Option ℕ) → IsLeast P a → IsLeast Q b → IsLeast R (lesser a b)
  least-of_two None None p q = λ n r. elim (split n r) [ inl holds ↦ p n holds | inr holds ↦ q n holds ]
  least-of_two None (Some n) p q =
      (right n q.0, λ k r. elim (split k r) [ inl holds ↦ absurd (p k holds) | inr holds ↦ q.1 k holds ])
  least-of_two (Some m) None p q =
      (left m p.0, λ k r. elim (split k r) [ inl holds ↦ p.1 k holds | inr holds ↦ absurd (q k holds) ])
  least-of_two (Some m) (Some n) p q =
      elim (cases_lt m n) [
        | inl lower ↦ first-lesser m n (omega arith) p.0 p.1 q.1
        | inr above ↦ second-lesser m n (omega arith) q.0 p.1 q.1
      ]
