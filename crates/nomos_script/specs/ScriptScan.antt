-- The tokens of a line. Space and tab stand between tokens, `//` begins a comment up to the end of the line, and at
-- each other byte the longest token is taken. No form of a line has a symbol of more than one byte, so each byte that
-- belongs to no word and no number is a token by itself.
use Rattle.std.specs.Prelude.{ℕ, zero, suc, Bool, false, ◌&&◌, ◌||◌, ◌==◌, List, [], ◌∷◌, ◌++◌, length, take, Option, Some, None, if◌then◌else◌}
use Rattle.std.specs.Option.{option_to_list}
use Rattle.std.specs.List.{prefix_len}
use Rattle.nomos_ir.specs.Name.{is_letter, is_digit, is_word_byte}

-- a token, with its bytes
pub data Token : Type 0 where
  word : (text : List ℕ) → Token
  number : (digits : List ℕ) → Token
  mark : (text : List ℕ) → Token

-- space or tab
abbrev pub is_blank : ℕ → Bool
is_blank b = b == 32 || b == 9

-- a comment begins here
abbrev pub begins_comment : ℕ → List ℕ → Bool
begins_comment b [] = false
begins_comment b (c ∷ bytes) = b == 47 && c == 47

-- What begins at a byte: a token, or nothing at a blank and at a comment; and how many of the bytes after it belong
-- to it.
pub record Piece : Type 0 where
  pub token : Option Token
  pub more : ℕ

-- a word: letters, digits and `_` as far as they go
abbrev pub word_piece : ℕ → List ℕ → Piece
word_piece b bytes =
    let n = prefix_len is_word_byte bytes in
    record { token = Some (word (b ∷ take n bytes)); more = n }

-- a number: digits as far as they go
abbrev pub number_piece : ℕ → List ℕ → Piece
number_piece b bytes =
    let n = prefix_len is_digit bytes in
    record { token = Some (number (b ∷ take n bytes)); more = n }

-- the piece that begins at the byte b, with these bytes of the line after it
unfoldable pub piece_at : ℕ → List ℕ → Piece
piece_at b bytes =
    if is_blank b then record { token = None; more = 0 }
    else (if begins_comment b bytes then record { token = None; more = length bytes }
    else (if is_letter b then word_piece b bytes
    else (if is_digit b then number_piece b bytes
    else record { token = Some (mark (b ∷ [])); more = 0 })))

-- The tokens of bytes of which the first `inside` belong to a piece that began before them.
unfoldable pub tokens_from : ℕ → List ℕ → List Token
tokens_from inside [] = []
tokens_from (suc inside) (b ∷ bytes) = tokens_from inside bytes
tokens_from zero (b ∷ bytes) =
    let piece = piece_at b bytes in
    option_to_list piece.token ++ tokens_from piece.more bytes

-- the tokens of a line
abbrev pub tokens_of : List ℕ → List Token
tokens_of line = tokens_from 0 line
