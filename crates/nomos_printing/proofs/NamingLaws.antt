-- Names that are looked up in a table.
use Rattle.std.proofs.Common.{◌≡◌, ℕ, List, [], ◌∷◌, Some, IfSome, inl, inr, sym}
use Rattle.std.specs.Prelude.{find}
use Rattle.std.specs.Str.{bytes_eq}
use Rattle.std.proofs.lemmas.Bool.{cases_Bool}
use Rattle.std.proofs.lemmas.Slice.Eq.{bytes_eq-Decides}
use Rattle.nomos_printing.specs.ReadAs.{ReadsAs}

-- what is found in a table is written so
named-found : {A : Type 0} (written : A → List ℕ) (text : List ℕ) (table : List A)
    → IfSome (find (λ a. bytes_eq (written a) text) table) (λ a. Unit {0} × (text ≡ written a))
named-found written text [] = tt
named-found written text (a ∷ table) = elim (cases_Bool (bytes_eq (written a) text)) [
  | inl same ↦ rw same (tt, sym ((bytes_eq-Decides (written a) text).0 same))
  | inr other ↦ rw other (named-found written text table)
]

-- a table that has each thing of the kind reads their names
pub ReadsAs-named : {A : Type 0} (written : A → List ℕ) (table : List A)
    → ((a : A) → find (λ b. bytes_eq (written b) (written a)) table ≡ Some a)
    → (text : List ℕ) → ReadsAs (λ a. Unit {0}) written text (find (λ a. bytes_eq (written a) text) table)
ReadsAs-named written table whole text =
    record { found = named-found written text table; each = λ a one e. rw e (whole a) }
