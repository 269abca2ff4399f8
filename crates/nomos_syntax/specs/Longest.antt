-- Which tokens the bytes of a text may begin with, and which of them is taken there.
use Rattle.std.specs.Prelude.{◌≡◌, ◌≢◌, ℕ, ◌<◌, false, List, [], ◌∷◌, ◌++◌, length, drop, IsTrue, All, codes}
use Rattle.nomos_ir.specs.Name.{is_digit, is_word_byte, IsName}
use Rattle.nomos_syntax.specs.declared.symbol.Symbol.TheVariants as sym
use Rattle.nomos_syntax.specs.declared.token.Token.{Token}
use Rattle.nomos_syntax.specs.Lexeme.{Lexeme, name, reserved, number, symbol, bad, Placed}
use Rattle.nomos_syntax.specs.Scan.{is_blank}
use Rattle.nomos_syntax.specs.Spans.{placed_of}
use Rattle.nomos_syntax.specs.Spelling.{spelling}

-- a number: digits, and at least one
pub record IsNumberText (bytes : List ℕ) : Type 0 where
  pub not_empty : 0 < length bytes
  pub each : All (λ byte. IsTrue (is_digit byte)) bytes

-- A token of the language: a name, a reserved word, a number or a symbol. A bad byte is none.
abbrev pub IsToken : Lexeme → Type 0
IsToken (name text) = IsName text
IsToken (reserved w) = Unit {0}
IsToken (number digits) = IsNumberText digits
IsToken (symbol s) = Unit {0}
IsToken (bad byte) = ⊥

-- no letter, digit or `_` comes next
abbrev pub EndsWord : List ℕ → Type 0
EndsWord [] = Unit {0}
EndsWord (byte ∷ bytes) = is_word_byte byte ≡ false

-- The bytes may begin with this token: its spelling comes first. Behind `-o` no letter, digit or `_` may come;
-- nothing is asked of what comes behind any other token.
pub record MayBegin (bytes : List ℕ) (lexeme : Lexeme) : Type 0 where
  pub token : IsToken lexeme
  pub behind : List ℕ
  pub split : spelling lexeme ++ behind ≡ bytes
  pub apart : lexeme ≡ symbol sym.Lollipop → EndsWord behind

-- the bytes may begin with this token, and each other one with which they may begin is shorter
pub record IsLongest (bytes : List ℕ) (lexeme : Lexeme) : Type 0 where
  pub begins : MayBegin bytes lexeme
  pub shorter : (other : Lexeme) → MayBegin bytes other → other ≢ lexeme →
      length (spelling other) < length (spelling lexeme)

-- the bytes begin with this one, which is no blank, and no token is spelled at their front
pub record IsBadByte (bytes : List ℕ) (byte : ℕ) : Type 0 where
  pub behind : List ℕ
  pub first : byte ∷ behind ≡ bytes
  pub no_blank : is_blank byte ≡ false
  pub no_token : (lexeme : Lexeme) (rest : List ℕ) → IsToken lexeme → spelling lexeme ++ rest ≢ bytes

-- the bytes begin with the mark of a comment
abbrev pub BeginsComment : List ℕ → Type 0
BeginsComment bytes = (behind : List ℕ) × (codes "//" ++ behind ≡ bytes)

-- What is taken at the front of bytes: where no comment begins, the longest token; a bad byte where there is none.
abbrev pub IsTaken : List ℕ → Lexeme → Type 0
IsTaken bytes (bad byte) = IsBadByte bytes byte
IsTaken bytes lexeme = ¬ BeginsComment bytes × IsLongest bytes lexeme

-- it is what is taken at its offset in the text
abbrev pub IsTakenAt : List ℕ → Placed → Type 0
IsTakenAt text placed = IsTaken (drop placed.at text) placed.lexeme

-- the same of a token with its span
abbrev pub IsTakenIn : List ℕ → Token → Type 0
IsTakenIn text token = IsTakenAt text (placed_of text token)
