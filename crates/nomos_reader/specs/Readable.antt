-- Tokens whose names and numbers can be taken from the text.
use Rattle.std.specs.Prelude.{ℕ, ◌≤◌, List, All}
use Rattle.std.specs.Str.Parse.{IsNumeral, digits_value}
use Rattle.nomos_grammar.specs.Offence.{number_limit}
use Rattle.nomos_syntax.specs.declared.token.Token.{Token}
use Rattle.nomos_syntax.specs.Lexeme.{Lexeme, name, reserved, number, symbol, bad}
use Rattle.nomos_syntax.specs.Spans.{LiesIn, IsSpelled, placed_of}

-- a number is a numeral within the limit
abbrev pub HasNumeral : Lexeme → Type 0
HasNumeral (name text) = Unit {0}
HasNumeral (reserved w) = Unit {0}
HasNumeral (number digits) = IsNumeral 10 digits × (digits_value 10 digits ≤ number_limit)
HasNumeral (symbol s) = Unit {0}
HasNumeral (bad byte) = Unit {0}

-- the tokens stand in the text, each with its bytes, and its numbers are numerals within the limit
pub record AreReadable (text : List ℕ) (tokens : List Token) : Type 0 where
  pub inside : All (LiesIn text) tokens
  pub spelled : All (IsSpelled text) tokens
  pub numerals : All (λ t. HasNumeral (placed_of text t).lexeme) tokens
