-- What is found of one thing more.
use Rattle.std.proofs.Common.{◌≡◌, ◌<◌, ◌≤◌, ◌⊎◌, inl, inr, ℕ, ◌+◌, Bool, true, false, cond, nat_le, Option, Some, None, refl, subst, arith}
use Rattle.std.proofs.lemmas.Bool.{cases_lt}
use Rattle.std.proofs.lemmas.Bool.Decides.{leb_tells}
use Rattle.nomos_rows.specs.mirror.FirstFault.{earliest, SomeBelow, TellsOne, TellsBelow}

-- what the test of two numbers tells
pub le_from : (m n : ℕ) → nat_le m n ≡ true → m ≤ n
le_from m n le = elim (leb_tells m n) [ inl (test, holds) ↦ holds | inr (test, holds) ↦ absurd cc ]

pub lt_from : (m n : ℕ) → nat_le m n ≡ false → n < m
lt_from m n le = elim (leb_tells m n) [ inl (test, holds) ↦ absurd cc | inr (test, holds) ↦ holds ]

-- a place below the next one is below this one, or this one
pub below-next : (P : ℕ → Type 0) (place : ℕ) → SomeBelow (place + 1) P → SomeBelow place P ⊎ P place
below-next P place (k, below, holds) =
    elim (cases_lt k place) [
      | inl lower ↦ inl (k, lower, holds)
      | inr above ↦ inr (let same : k ≡ place = omega arith in subst P same holds)
    ]

pub below-more : (P : ℕ → Type 0) (place : ℕ) → SomeBelow place P → SomeBelow (place + 1) P
below-more P place (k, below, holds) = (k, omega arith, holds)

-- what holds below a place and at it holds below the next one
pub each-next : (P : ℕ → Type 0) (place : ℕ) → ((k : ℕ) → k < place → P k) → P place → (k : ℕ) → k < place + 1 → P k
each-next P place before here k below =
    elim (cases_lt k place) [
      | inl lower ↦ before k lower
      | inr above ↦ (let same : place ≡ k = omega arith in subst P same here)
    ]

module _ {X : Type 0} (Fault : ℕ → ℕ → X → Type 0) (Fine : ℕ → Type 0) (apart : (k at : ℕ) (x : X) → Fine k
    → Fault k at x → ⊥) where
  -- no fault at a place comes before the first, if none below it and none at it does
  least-next : (place least : ℕ) → ((k at : ℕ) (x : X) → k < place → Fault k at x → least ≤ at) → ((at : ℕ) (x : X)
      → Fault place at x → least ≤ at) → (k at : ℕ) (x : X) → k < place + 1 → Fault k at x → least ≤ at
  least-next place least before here k at x below fault =
      each-next (λ i. (n : ℕ) (y : X) → Fault i n y → least ≤ n) place
      (λ i lower n y f. before i n y lower f) here k below at x fault

  -- the earlier of the first and that of this one
  earlier-told : (place : ℕ) (a b : ℕ × X) (d : Bool) → nat_le a.0 b.0 ≡ d → TellsBelow Fault Fine place (Some a)
      → TellsOne (Fault place) (Fine place) (Some b) → TellsBelow Fault Fine (place + 1) (cond d (Some a) (Some b))
  earlier-told place a b true le before here =
      let lower : a.0 ≤ b.0 = le_from a.0 b.0 le in (
        below-more (λ k. Fault k a.0 a.1) place before.0,
        least-next place a.0 before.1 (λ at x fault. let known = here.1 at x fault in omega arith),
      )
  earlier-told place a b false le before here =
      let above : b.0 < a.0 = lt_from a.0 b.0 le in (
        (place, omega arith, here.0),
        least-next place b.0 (λ k at x below fault. let known = before.1 k at x below fault in omega arith) here.1,
      )

  -- what is found of those below and of this one is found of all
  pub tells-more : (place : ℕ) (first found : Option (ℕ × X)) → TellsBelow Fault Fine place first
      → TellsOne (Fault place) (Fine place) found → TellsBelow Fault Fine (place + 1) (earliest first found)
  tells-more place None None before here = each-next Fine place before here
  tells-more place None (Some a) before here = (
    (place, omega arith, here.0),
    least-next place a.0 (λ k at x below fault. absurd (apart k at x (before k below) fault)) here.1,
  )
  tells-more place (Some a) None before here = (
    below-more (λ k. Fault k a.0 a.1) place before.0,
    least-next place a.0 before.1 (λ at x fault. absurd (apart place at x here fault)),
  )
  tells-more place (Some a) (Some b) before here = earlier-told place a b (nat_le a.0 b.0) refl before here
