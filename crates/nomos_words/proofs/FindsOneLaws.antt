-- When nothing is found, and what is found.
use Rattle.std.proofs.Common.{◌≡◌, Some, None}
use Rattle.nomos_words.specs.FindsOne.{FindsOne}

-- there is nothing to be found
pub FindsOne-none : {A : Type 0} {IsOne : A → Type 0} → ((a : A) → IsOne a → ⊥) → FindsOne IsOne None
FindsOne-none none = record { found = tt; each = λ a one. absurd (none a one) }

-- this is it, and nothing else is
pub FindsOne-some : {A : Type 0} {IsOne : A → Type 0} (b : A) → IsOne b → ((a : A) → IsOne a → Some b ≡ Some a)
    → FindsOne IsOne (Some b)
FindsOne-some b one only = record { found = one; each = only }
