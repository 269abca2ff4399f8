-- A mirror of the code: what is found of things one after another, each of which is fine or has faults, and of its
-- faults the first by its offset. No promise stands on it.
use Rattle.std.specs.Prelude.{◌<◌, ◌≤◌, ℕ, nat_le, Option, Some, None, if◌then◌else◌}

-- that of the lesser offset, as far as they are there; of two with one offset the first
abbrev pub earliest : {X : Type 0} → Option (ℕ × X) → Option (ℕ × X) → Option (ℕ × X)
earliest None other = other
earliest (Some a) None = Some a
earliest (Some a) (Some b) = if nat_le a.0 b.0 then Some a else Some b

-- something below the place
abbrev pub SomeBelow : ℕ → (ℕ → Type 0) → Type 0
SomeBelow place P = (k : ℕ) × (k < place) × P k

-- it is fine, or this is the first of its faults
abbrev pub TellsOne : {X : Type 0} → (ℕ → X → Type 0) → Type 0 → Option (ℕ × X) → Type 0
TellsOne {X} Fault Fine None = Fine
TellsOne {X} Fault Fine (Some a) = Fault a.0 a.1 × ((at : ℕ) (x : X) → Fault at x → a.0 ≤ at)

-- all below the place are fine, or this is the first of their faults
abbrev pub TellsBelow : {X : Type 0} → (ℕ → ℕ → X → Type 0) → (ℕ → Type 0) → ℕ → Option (ℕ × X) → Type 0
TellsBelow {X} Fault Fine place None = (k : ℕ) → k < place → Fine k
TellsBelow {X} Fault Fine place (Some a) =
    SomeBelow place (λ k. Fault k a.0 a.1) × ((k at : ℕ) (x : X) → k < place → Fault k at x → a.0 ≤ at)
