-- What is answered of a text that is read as one thing of a kind.
use Rattle.std.specs.Prelude.{◌≡◌, ℕ, List, Option, Some, IfSome}

-- The things of the kind, each of which is written so. The answer is the one that is written as the text, and there is
-- an answer wherever one of them is.
pub record ReadsAs {A : Type 0} (IsOne : A → Type 0) (written : A → List ℕ) (text : List ℕ) (answer : Option A)
    : Type 0 where
  pub found : IfSome answer (λ a. IsOne a × (text ≡ written a))
  pub each : (a : A) → IsOne a → text ≡ written a → answer ≡ Some a
