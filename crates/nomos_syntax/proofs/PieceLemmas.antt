-- What piece begins at a byte, case by case.
use Rattle.std.proofs.Common.{◌≡◌, ℕ, suc, ◌+◌, true, false, List, ◌∷◌, take, Some, None, add-one, ap}
use Rattle.std.specs.List.{prefix_len}
use Rattle.nomos_ir.specs.Name.{is_letter, is_digit, is_word_byte}
use Rattle.nomos_ir.specs.Word.{reserved_word}
use Rattle.nomos_syntax.specs.declared.token.TokenKind.{TokenKind}
use Rattle.nomos_syntax.specs.Scan.{is_blank, is_comment_byte, begins_comment, word_lexeme, word_piece, number_piece, symbol_piece, piece_at}
use Rattle.nomos_syntax.specs.Spans.{lexeme_of}
use Rattle.nomos_syntax.specs.Found.{Finds}

-- a blank is no token
pub piece_at-blank : (b : ℕ) (bytes : List ℕ) → is_blank b ≡ true
    → piece_at b bytes ≡ record { lexeme = None; more = 0 }
unfolding piece_at
piece_at-blank b bytes h = rw h

-- a comment goes up to the end of its line
pub piece_at-comment : (b : ℕ) (bytes : List ℕ) → is_blank b ≡ false → begins_comment b bytes ≡ true
    → piece_at b bytes ≡ record { lexeme = None; more = prefix_len is_comment_byte bytes }
unfolding piece_at
piece_at-comment b bytes h k = rw (h, k)

-- a word begins with a letter
pub piece_at-word : (b : ℕ) (bytes : List ℕ) → is_blank b ≡ false → begins_comment b bytes ≡ false → is_letter b ≡ true
    → piece_at b bytes ≡ word_piece b bytes
unfolding piece_at
piece_at-word b bytes h k l = rw (h, k, l)

-- a number begins with a digit
pub piece_at-number : (b : ℕ) (bytes : List ℕ) → is_blank b ≡ false → begins_comment b bytes ≡ false
    → is_letter b ≡ false → is_digit b ≡ true → piece_at b bytes ≡ number_piece b bytes
unfolding piece_at
piece_at-number b bytes h k l d = rw (h, k, l, d)

-- at any other byte stands a symbol, or a bad byte
pub piece_at-symbol : (b : ℕ) (bytes : List ℕ) → is_blank b ≡ false → begins_comment b bytes ≡ false
    → is_letter b ≡ false → is_digit b ≡ false → piece_at b bytes ≡ symbol_piece b bytes
unfolding piece_at
piece_at-symbol b bytes h k l d = rw (h, k, l, d)

-- a word is found by its length, and by whether it is reserved
pub finds_word : (b : ℕ) (after bytes : List ℕ) (kind : TokenKind) (n : ℕ) → bytes ≡ b ∷ after
    → n ≡ prefix_len is_word_byte after
    → lexeme_of kind (take (n + 1) bytes) ≡ word_lexeme (reserved_word (take (n + 1) bytes)) (take (n + 1) bytes)
    → Finds bytes (word_piece b after) (record { kind = Some kind; more = n })
finds_word b after bytes kind n split length_is kind_is =
    let read : lexeme_of kind (take (suc n) (b ∷ after))
    ≡ word_lexeme (reserved_word (take (suc n) (b ∷ after))) (take (suc n) (b ∷ after)) = rw (add-one, split)
    at kind_is in
    rw split (record { more = length_is; lexeme = ap Some (rw (← length_is) read) })
