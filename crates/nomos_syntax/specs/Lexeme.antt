-- What a token says, and where it stands.
use Rattle.std.specs.Prelude.{ℕ, List}
use Rattle.nomos_ir.specs.declared.word.Word.{Word}
use Rattle.nomos_syntax.specs.declared.symbol.Symbol.{Symbol}

-- a token without its place
pub data Lexeme : Type 0 where
  name : (text : List ℕ) → Lexeme
  reserved : (word : Word) → Lexeme
  number : (digits : List ℕ) → Lexeme
  symbol : (s : Symbol) → Lexeme
  -- a byte that begins no token
  bad : (byte : ℕ) → Lexeme

-- a token at its offset in the text
pub record Placed : Type 0 where
  pub at : ℕ
  pub lexeme : Lexeme
