-- Texts that come apart at the first place of a byte.
use Rattle.std.specs.Prelude.{◌≡◌, ◌≢◌, ℕ, List, ◌∷◌, ◌++◌, All}

-- the byte does not stand in the text
abbrev pub Lacks : ℕ → List ℕ → Type 0
Lacks mark text = All (λ byte. byte ≢ mark) text

-- the text is a front without the byte, the byte, and what comes behind it
pub record ComesApart (mark : ℕ) (text front back : List ℕ) : Type 0 where
  pub lacks : Lacks mark front
  pub joined : text ≡ front ++ mark ∷ back
