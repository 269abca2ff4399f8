-- The tokens of a text. Space, tab, carriage return and line feed stand between tokens, `//` begins a
-- comment up to the end of the line, and at each other byte the longest token is taken.
use Rattle.std.specs.Prelude.{ℕ, zero, suc, Bool, false, ◌&&◌, ◌||◌, not, ◌==◌, List, [], ◌∷◌, ◌++◌, take, Option, Some, None, if◌then◌else◌}
use Rattle.std.specs.List.{prefix_len}
use Rattle.nomos_ir.specs.Name.{is_letter, is_digit, is_word_byte}
use Rattle.nomos_ir.specs.declared.word.Word.{Word}
use Rattle.nomos_ir.specs.Word.{reserved_word}
use Rattle.nomos_syntax.specs.declared.symbol.Symbol.{Symbol}
use Rattle.nomos_syntax.specs.declared.symbol.Symbol.TheVariants as sym
use Rattle.nomos_syntax.specs.Lexeme.{Lexeme, name, reserved, number, symbol, bad, Placed}

-- space, tab, carriage return or line feed
abbrev pub is_blank : ℕ → Bool
is_blank b = b == 32 || b == 9 || b == 13 || b == 10

-- any byte but the line feed, which ends a comment
abbrev pub is_comment_byte : ℕ → Bool
is_comment_byte b = not (b == 10)

-- the symbol that two bytes make, if they make one
abbrev pub double_symbol : ℕ → ℕ → Option Symbol
double_symbol b c =
    if b == 45 && c == 62 then Some sym.Arrow
    else (if b == 61 && c == 62 then Some sym.FatArrow
    else (if b == 58 && c == 58 then Some sym.DoubleColon
    else (if b == 47 && c == 92 then Some sym.Wedge
    else None)))

-- the symbol that one byte makes, if it makes one
abbrev pub single_symbol : ℕ → Option Symbol
single_symbol b =
    if b == 40 then Some sym.OpenParen
    else (if b == 41 then Some sym.CloseParen
    else (if b == 123 then Some sym.OpenBrace
    else (if b == 125 then Some sym.CloseBrace
    else (if b == 44 then Some sym.Comma
    else (if b == 59 then Some sym.Semicolon
    else (if b == 58 then Some sym.Colon
    else (if b == 46 then Some sym.Dot
    else (if b == 61 then Some sym.Equals
    else (if b == 43 then Some sym.Plus
    else (if b == 45 then Some sym.Minus
    else (if b == 42 then Some sym.Star
    else (if b == 47 then Some sym.Slash
    else (if b == 37 then Some sym.Percent
    else (if b == 60 then Some sym.Less
    else (if b == 62 then Some sym.Greater
    else (if b == 124 then Some sym.Bar
    else (if b == 38 then Some sym.Ampersand
    else None)))))))))))))))))

-- Whether `-o` begins with these bytes as a symbol: no letter, digit or `_` follows it.
abbrev pub begins_lollipop : ℕ → List ℕ → Bool
begins_lollipop b [] = false
begins_lollipop b (c ∷ []) = b == 45 && c == 111
begins_lollipop b (c ∷ d ∷ bytes) = b == 45 && c == 111 && not (is_word_byte d)

-- a comment begins here
abbrev pub begins_comment : ℕ → List ℕ → Bool
begins_comment b [] = false
begins_comment b (c ∷ bytes) = b == 47 && c == 47

-- What begins at a byte: a token, or nothing at a blank and at a comment; and how many of the bytes
-- after it belong to it.
pub record Piece : Type 0 where
  pub lexeme : Option Lexeme
  pub more : ℕ

-- a reserved word, or else a name
abbrev pub word_lexeme : Option Word → List ℕ → Lexeme
word_lexeme (Some w) text = reserved w
word_lexeme None text = name text

-- the bytes from b on that are b and the first n after it
abbrev pub run_of : ℕ → ℕ → List ℕ → List ℕ
run_of b n bytes = b ∷ take n bytes

-- a word: letters, digits and `_` as far as they go
abbrev pub word_piece : ℕ → List ℕ → Piece
word_piece b bytes =
    let n = prefix_len is_word_byte bytes in
    record { lexeme = Some (word_lexeme (reserved_word (run_of b n bytes)) (run_of b n bytes)); more = n }

-- a number: digits as far as they go
abbrev pub number_piece : ℕ → List ℕ → Piece
number_piece b bytes =
    let n = prefix_len is_digit bytes in
    record { lexeme = Some (number (run_of b n bytes)); more = n }

-- a symbol of two bytes, or of one, or a bad byte
abbrev pub one_byte_piece : ℕ → Option Symbol → Piece
one_byte_piece b (Some s) = record { lexeme = Some (symbol s); more = 0 }
one_byte_piece b None = record { lexeme = Some (bad b); more = 0 }

-- A symbol of two bytes takes the byte behind it too; where there is none, the shorter piece stands.
abbrev pub two_byte_piece : Option Symbol → Piece → Piece
two_byte_piece (Some s) shorter = record { lexeme = Some (symbol s); more = 1 }
two_byte_piece None shorter = shorter

-- The symbol of two bytes that begins here, if one does; `-o` is one only where the word ends with it.
abbrev pub longest_symbol : ℕ → List ℕ → Option Symbol
longest_symbol b [] = None
longest_symbol b (c ∷ bytes) =
    if begins_lollipop b (c ∷ bytes) then Some sym.Lollipop else double_symbol b c

-- The longest symbol that begins at the byte, or the bad byte that begins none.
abbrev pub symbol_piece : ℕ → List ℕ → Piece
symbol_piece b bytes = two_byte_piece (longest_symbol b bytes) (one_byte_piece b (single_symbol b))

-- the longest piece that begins at the byte b, with these bytes after it
unfoldable pub piece_at : ℕ → List ℕ → Piece
piece_at b bytes =
    if is_blank b then record { lexeme = None; more = 0 }
    else (if begins_comment b bytes then record { lexeme = None; more = prefix_len is_comment_byte bytes }
    else (if is_letter b then word_piece b bytes
    else (if is_digit b then number_piece b bytes
    else symbol_piece b bytes)))

-- the token at this offset, if it is one
abbrev pub placed_at : ℕ → Option Lexeme → List Placed
placed_at at None = []
placed_at at (Some lexeme) = record { at = at; lexeme = lexeme } ∷ []

-- The tokens from an offset on. The first `inside` bytes belong to a piece that began before them.
unfoldable pub tokens_from : ℕ → ℕ → List ℕ → List Placed
tokens_from at inside [] = []
tokens_from at (suc inside) (b ∷ bytes) = tokens_from (suc at) inside bytes
tokens_from at zero (b ∷ bytes) =
    let piece = piece_at b bytes in
    placed_at at piece.lexeme ++ tokens_from (suc at) piece.more bytes

-- the tokens of a text, each at its offset
abbrev pub tokens_of : List ℕ → List Placed
tokens_of text = tokens_from 0 0 text
