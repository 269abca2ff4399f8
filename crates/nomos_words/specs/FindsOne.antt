-- What is looked for and found.
use Rattle.std.specs.Prelude.{◌≡◌, Option, Some, IfSome}

-- The answer is the one of which this holds, and there is an answer wherever it holds of one.
pub record FindsOne {A : Type 0} (IsOne : A → Type 0) (answer : Option A) : Type 0 where
  pub found : IfSome answer IsOne
  pub each : (a : A) → IsOne a → answer ≡ Some a
