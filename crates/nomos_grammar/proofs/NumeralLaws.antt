-- The numbers among the tokens of a text are numerals.
use Rattle.std.proofs.Common.{
  ◌≡◌,
  ℕ,
  suc,
  ◌+◌,
  ◌<◌,
  Bool,
  true,
  false,
  List,
  [],
  ◌∷◌,
  take,
  Option,
  Some,
  None,
  IfSome,
  All,
  inl,
  inr,
  arith,
  refl,
  if◌then◌else◌,
}
use Rattle.std.specs.List.{prefix_len}
use Rattle.std.specs.Prelude.{nat_le}
use Rattle.std.specs.Char.{digit_value}
use Rattle.std.specs.Str.Parse.{AllDigits, IsNumeral}
use Rattle.std.proofs.lemmas.Bool.{cases_Bool, and_parts, leb-true}
use Rattle.std.proofs.lemmas.Str.{digit_value_digit}
use Rattle.nomos_ir.specs.declared.word.Word.{Word}
use Rattle.nomos_ir.specs.Name.{is_letter, is_digit, is_word_byte}
use Rattle.nomos_ir.specs.Word.{reserved_word}
use Rattle.nomos_syntax.specs.declared.symbol.Symbol.{Symbol}
use Rattle.nomos_syntax.specs.Scan.{
  Piece,
  is_blank,
  is_comment_byte,
  begins_comment,
  word_lexeme,
  run_of,
  word_piece,
  number_piece,
  one_byte_piece,
  two_byte_piece,
  longest_symbol,
  single_symbol,
  symbol_piece,
  piece_at,
  tokens_of,
}
use Rattle.nomos_syntax.proofs.NameLaws.{All-tokens_from}
use Rattle.nomos_grammar.specs.mirror.ReaderStates.{IsWritten}

digit_below_ten : (b : ℕ) → is_digit b ≡ true → digit_value b < 10
digit_below_ten b digit =
    let both = and_parts (nat_le 48 b) (nat_le b 57) digit in
    omega (arith, digit_value_digit b (leb-true 48 b both.0, leb-true b 57 both.1), leb-true b 57 both.1)

-- the digits in front are digits
front_digits : (bytes : List ℕ) → AllDigits 10 (take (prefix_len is_digit bytes) bytes)
front_digits [] = tt
front_digits (b ∷ bytes) =
    let more : 1 + prefix_len is_digit bytes ≡ suc (prefix_len is_digit bytes) = omega arith in
    elim (cases_Bool (is_digit b)) [
      | inl digit ↦ rw (digit, more) (digit_below_ten b digit, front_digits bytes)
      | inr stops ↦ rw stops tt
    ]

-- a digit and the digits after it are a numeral
digits_are_numeral : (b : ℕ) (bytes : List ℕ) → is_digit b ≡ true →
    IsNumeral 10 (b ∷ take (prefix_len is_digit bytes) bytes)
digits_are_numeral b bytes digit = (omega arith, (digit_below_ten b digit, front_digits bytes))

-- what the piece says is written so
abbrev Written : Piece → Type 0
Written piece = IfSome piece.lexeme IsWritten

written_if : (b : Bool) (x y : Piece) → (b ≡ true → Written x) → (b ≡ false → Written y) → Written (if b then x else y)
written_if true x y if_so otherwise = if_so refl
written_if false x y if_so otherwise = otherwise refl

word_written : (text : List ℕ) (found : Option Word) → IsWritten (word_lexeme found text)
word_written text None = tt
word_written text (Some w) = tt

symbol_written : (b : ℕ) (two one : Option Symbol) → Written (two_byte_piece two (one_byte_piece b one))
symbol_written b (Some s) one = tt
symbol_written b None (Some s) = tt
symbol_written b None None = tt

piece_written : (b : ℕ) (bytes : List ℕ) → Written (piece_at b bytes)
unfolding piece_at
piece_written b bytes =
    let blank : Piece = record { lexeme = None; more = 0 } in
    let comment : Piece = record { lexeme = None; more = prefix_len is_comment_byte bytes } in
    let last = if is_digit b then number_piece b bytes else symbol_piece b bytes in
    let words = if is_letter b then word_piece b bytes else last in
    written_if (is_blank b) blank (if begins_comment b bytes then comment else words) (λ _. tt)
    (λ _. written_if (begins_comment b bytes) comment words (λ _. tt)
    (λ _. written_if (is_letter b) (word_piece b bytes) last
    (λ _. word_written (run_of b (prefix_len is_word_byte bytes) bytes)
    (reserved_word (run_of b (prefix_len is_word_byte bytes) bytes)))
    (λ _. written_if (is_digit b) (number_piece b bytes) (symbol_piece b bytes)
    (λ digit. digits_are_numeral b bytes digit)
    (λ _. symbol_written b (longest_symbol b bytes) (single_symbol b)))))

pub numbers_are_numerals : (text : List ℕ) → All (λ token. IsWritten token.lexeme) (tokens_of text)
numbers_are_numerals text = All-tokens_from IsWritten piece_written 0 0 text
