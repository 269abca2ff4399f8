-- What the tokens that stand with their spans say of a text.
use Rattle.std.specs.Prelude.{◌≡◌, ℕ, ◌<◌, ◌≤◌, nat_le, List, length, map, position, slice_index, slice_range, All, AllPairs, Option, Some}
use Rattle.nomos_syntax.specs.declared.token.Token.{Token}
use Rattle.nomos_syntax.specs.declared.token.TokenKind.{TokenKind}
use Rattle.nomos_syntax.specs.declared.token.TokenKind.TheVariants as kind
use Rattle.nomos_ir.specs.Limits.{text_limit}
use Rattle.nomos_syntax.specs.Spelling.{spelling}
use Rattle.nomos_syntax.specs.Lexeme.{Lexeme, name, reserved, number, symbol, bad, Placed}

-- what a token of this kind and text says
abbrev pub lexeme_of : TokenKind → List ℕ → Lexeme
lexeme_of kind.Name text = name text
lexeme_of (kind.Reserved w) text = reserved w
lexeme_of kind.Number text = number text
lexeme_of (kind.Symbol s) text = symbol s
lexeme_of kind.Bad text = bad (slice_index text 0)

-- the bytes at the token's span
abbrev pub span_text : List ℕ → Token → List ℕ
span_text text token = slice_range text token.from token.to

-- the token at its offset in the text
abbrev pub placed_of : List ℕ → Token → Placed
placed_of text token = record { at = token.from; lexeme = lexeme_of token.kind (span_text text token) }

-- the span lies in the text, and is not empty
pub record LiesIn (text : List ℕ) (token : Token) : Type 0 where
  pub not_empty : token.from < token.to
  pub inside : token.to ≤ length text

-- the bytes at the span are those of which the token consists
abbrev pub IsSpelled : List ℕ → Token → Type 0
IsSpelled text token = span_text text token ≡ spelling (placed_of text token).lexeme

-- one token ends before the other begins
abbrev pub StandsBefore : Token → Token → Type 0
StandsBefore first later = first.to ≤ later.from

-- the tokens stand in the text, each with its bytes and in order, and are these
pub record StandFor (text : List ℕ) (tokens : List Token) (placed : List Placed) : Type 0 where
  pub inside : All (LiesIn text) tokens
  pub spelled : All (IsSpelled text) tokens
  pub in_order : AllPairs StandsBefore tokens
  pub same : map (placed_of text) tokens ≡ placed

-- the offset of the first byte over 127, if there is one
abbrev pub first_not_ascii : List ℕ → Option ℕ
first_not_ascii text = position (λ byte. nat_le 128 byte) text

-- a text that is not too long has its first byte over 127 here
pub record IsFirstNotAscii (text : List ℕ) (at : ℕ) : Type 0 where
  pub length_limit : length text ≤ text_limit
  pub first : first_not_ascii text ≡ Some at
