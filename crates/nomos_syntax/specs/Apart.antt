-- How a text comes apart into its tokens, and the blanks and comments between them.
use Rattle.std.specs.Prelude.{◌≡◌, ◌≢◌, ℕ, suc, ◌+◌, true, List, [], ◌∷◌, ◌++◌, length, All, codes}
use Rattle.nomos_syntax.specs.Lexeme.{Lexeme, Placed}
use Rattle.nomos_syntax.specs.Longest.{IsTaken}
use Rattle.nomos_syntax.specs.Scan.{is_blank}
use Rattle.nomos_syntax.specs.Spelling.{spelling}

-- a line feed comes next, or nothing
abbrev pub EndsLine : List ℕ → Type 0
EndsLine [] = Unit {0}
EndsLine (byte ∷ bytes) = byte ≡ 10

-- The bytes from an offset on come apart into these tokens: nothing but a blank, a whole comment or a token that is
-- taken there, and then the rest.
pub data ComesApart : ℕ → List ℕ → List Placed → Type 0 where
  nothing : {at : ℕ} → ComesApart at [] []
  blank : {at b : ℕ} {rest : List ℕ} {tokens : List Placed} →
      is_blank b ≡ true → ComesApart (suc at) rest tokens → ComesApart at (b ∷ rest) tokens
  comment : {at : ℕ} {rest : List ℕ} {tokens : List Placed} (line : List ℕ) →
      All (λ byte. byte ≢ 10) line → EndsLine rest → ComesApart (at + 2 + length line) rest tokens →
      ComesApart at (codes "//" ++ line ++ rest) tokens
  token : {at : ℕ} {rest : List ℕ} {tokens : List Placed} (lexeme : Lexeme) →
      IsTaken (spelling lexeme ++ rest) lexeme → ComesApart (at + length (spelling lexeme)) rest tokens →
      ComesApart at (spelling lexeme ++ rest) (record { at = at; lexeme = lexeme } ∷ tokens)
