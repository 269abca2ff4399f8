-- When a text is read as nothing, and as what it is.
use Rattle.std.proofs.Common.{◌≡◌, ℕ, List, None}
use Rattle.nomos_printing.specs.ReadAs.{ReadsAs}

-- nothing of the kind is written as the text
pub ReadsAs-none : {A : Type 0} {IsOne : A → Type 0} {written : A → List ℕ} (text : List ℕ)
    → ((a : A) → IsOne a → text ≡ written a → ⊥) → ReadsAs IsOne written text None
ReadsAs-none text none = record { found = tt; each = λ a one e. absurd (none a one e) }
