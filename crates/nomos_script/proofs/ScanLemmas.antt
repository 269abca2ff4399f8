-- The tokens of a line, piece by piece.
use Rattle.std.proofs.Common.{◌≡◌, ℕ, zero, suc, ◌+◌, ◌-◌, ◌<◌, ◌≤◌, true, false, ◌==◌, List, [], ◌∷◌, ◌++◌, length, take, drop, Some, None, inl, inr, refl, ap, ◌∙◌, arith}
use Rattle.std.specs.List.{prefix_len}
use Rattle.std.specs.Option.{option_to_list}
use Rattle.std.specs.Prelude.{nat_le}
use Rattle.std.specs.Char.{digit_value}
use Rattle.std.specs.Str.Parse.{AllDigits, IsNumeral}
use Rattle.std.proofs.lemmas.Bool.{cases_Bool, and_parts, leb-true}
use Rattle.std.proofs.lemmas.Str.{digit_value_digit}
use Rattle.std.proofs.lemmas.List.{drop_all, take_rest}
use Rattle.std.specs.Prelude.{slice_index}
use Rattle.nomos_ir.specs.Name.{is_letter, is_digit, is_word_byte}
use Rattle.nomos_script.specs.mirror.ReaderSeen.{IsPlainMark}
use Rattle.nomos_script.specs.ScriptScan.{word, number, mark, is_blank, begins_comment, piece_at, tokens_from, tokens_of}

-- inside a piece stands no token
tokens_from-inside : (n : ℕ) (bytes : List ℕ) → tokens_from n bytes ≡ tokens_of (drop n bytes)
unfolding tokens_from
tokens_from-inside zero bytes = refl
tokens_from-inside (suc n) [] = refl
tokens_from-inside (suc n) (b ∷ bytes) = tokens_from-inside n bytes

pub tokens_of-nil : tokens_of [] ≡ []
unfolding tokens_from
tokens_of-nil = refl

-- the tokens are that of the first piece, if it is one, and those behind the piece
tokens_of-piece : (b : ℕ) (bytes : List ℕ)
    → tokens_of (b ∷ bytes) ≡ option_to_list (piece_at b bytes).token ++ tokens_of (drop (piece_at b bytes).more bytes)
unfolding tokens_from
tokens_of-piece b bytes =
    ap (λ tokens. option_to_list (piece_at b bytes).token ++ tokens) (tokens_from-inside (piece_at b bytes).more bytes)

-- what begins with a blank
pub piece_at-blank : (b : ℕ) (bytes : List ℕ) → is_blank b ≡ true → piece_at b bytes ≡ record { token = None; more = 0 }
unfolding piece_at
piece_at-blank b bytes blank = rw blank

pub tokens_of-blank : (b : ℕ) (bytes : List ℕ) → is_blank b ≡ true → tokens_of (b ∷ bytes) ≡ tokens_of bytes
tokens_of-blank b bytes blank = tokens_of-piece b bytes ∙ rw (piece_at-blank b bytes blank) refl

-- with a comment
pub piece_at-comment : (b : ℕ) (bytes : List ℕ) → is_blank b ≡ false → begins_comment b bytes ≡ true
    → piece_at b bytes ≡ record { token = None; more = length bytes }
unfolding piece_at
piece_at-comment b bytes solid comment = rw (solid, comment)

pub tokens_of-comment : (b : ℕ) (bytes : List ℕ) → is_blank b ≡ false → begins_comment b bytes ≡ true
    → tokens_of (b ∷ bytes) ≡ []
tokens_of-comment b bytes solid comment =
    tokens_of-piece b bytes ∙ rw (piece_at-comment b bytes solid comment, drop_all (length bytes) bytes (omega arith))
    tokens_of-nil

-- with a word
pub piece_at-word : (b : ℕ) (bytes : List ℕ) → is_blank b ≡ false → begins_comment b bytes ≡ false → is_letter b ≡ true
    → piece_at b bytes ≡ record {
      token = Some (word (b ∷ take (prefix_len is_word_byte bytes) bytes));
      more = prefix_len is_word_byte bytes;
    }
unfolding piece_at
piece_at-word b bytes solid code letter = rw (solid, code, letter)

pub tokens_of-word : (b : ℕ) (bytes : List ℕ) → is_blank b ≡ false → begins_comment b bytes ≡ false → is_letter b ≡ true
    → tokens_of (b ∷ bytes) ≡ word (b ∷ take (prefix_len is_word_byte bytes) bytes) ∷
    tokens_of (drop (prefix_len is_word_byte bytes) bytes)
tokens_of-word b bytes solid code letter =
    tokens_of-piece b bytes ∙ rw (piece_at-word b bytes solid code letter) refl

-- with a number
pub piece_at-number : (b : ℕ) (bytes : List ℕ) → is_blank b ≡ false → begins_comment b bytes ≡ false
    → is_letter b ≡ false → is_digit b ≡ true
    → piece_at b bytes ≡ record {
      token = Some (number (b ∷ take (prefix_len is_digit bytes) bytes));
      more = prefix_len is_digit bytes;
    }
unfolding piece_at
piece_at-number b bytes solid code other digit = rw (solid, code, other, digit)

pub tokens_of-number : (b : ℕ) (bytes : List ℕ) → is_blank b ≡ false → begins_comment b bytes ≡ false
    → is_letter b ≡ false → is_digit b ≡ true
    → tokens_of (b ∷ bytes) ≡ number (b ∷ take (prefix_len is_digit bytes) bytes) ∷
    tokens_of (drop (prefix_len is_digit bytes) bytes)
tokens_of-number b bytes solid code other digit =
    tokens_of-piece b bytes ∙ rw (piece_at-number b bytes solid code other digit) refl

-- a byte that is no `/` begins no comment
no_comment : (b : ℕ) (bytes : List ℕ) → (b == 47) ≡ false → begins_comment b bytes ≡ false
no_comment b [] slashless = refl
no_comment b (c ∷ bytes) slashless = rw slashless refl

-- with any other byte
pub piece_at-mark : (b : ℕ) (bytes : List ℕ) → is_blank b ≡ false → begins_comment b bytes ≡ false → is_letter b ≡ false
    → is_digit b ≡ false → piece_at b bytes ≡ record { token = Some (mark (b ∷ [])); more = 0 }
unfolding piece_at
piece_at-mark b bytes solid code other rest = rw (solid, code, other, rest)

pub tokens_of-mark : (b : ℕ) (bytes : List ℕ) → is_blank b ≡ false → begins_comment b bytes ≡ false
    → is_letter b ≡ false → is_digit b ≡ false → tokens_of (b ∷ bytes) ≡ mark (b ∷ []) ∷ tokens_of bytes
tokens_of-mark b bytes solid code other rest =
    tokens_of-piece b bytes ∙ rw (piece_at-mark b bytes solid code other rest) refl

-- with a byte that is always one
pub tokens_of-plain : (text : List ℕ) (b : ℕ) → 1 ≤ length text → slice_index text 0 ≡ b → IsPlainMark b
    → tokens_of text ≡ mark (b ∷ []) ∷ tokens_of (take (length text - 1) (drop 1 text))
tokens_of-plain [] b some first plain = absurd (omega (arith, some))
tokens_of-plain (c ∷ bytes) b some first (solid, slashless, other, rest) =
    let code : begins_comment b bytes ≡ false = no_comment b bytes slashless in
    rw (first, take_rest (c ∷ bytes) 1) (tokens_of-mark b bytes solid code other rest)

-- blanks in front change nothing
pub tokens_of-blanks : (bytes : List ℕ) → tokens_of (drop (prefix_len is_blank bytes) bytes) ≡ tokens_of bytes
tokens_of-blanks [] = refl
tokens_of-blanks (b ∷ bytes) =
    let more : 1 + prefix_len is_blank bytes ≡ suc (prefix_len is_blank bytes) = omega arith in
    elim (cases_Bool (is_blank b)) [
      | inl blank ↦ rw (blank, more, tokens_of-blank b bytes blank) (tokens_of-blanks bytes)
      | inr solid ↦ rw solid refl
    ]

-- behind the blanks in front stands none
pub solid_behind : (bytes : List ℕ) → is_blank (slice_index (drop (prefix_len is_blank bytes) bytes) 0) ≡ false
solid_behind [] = refl
solid_behind (b ∷ bytes) =
    let more : 1 + prefix_len is_blank bytes ≡ suc (prefix_len is_blank bytes) = omega arith in
    elim (cases_Bool (is_blank b)) [
      | inl blank ↦ rw (blank, more) (solid_behind bytes)
      | inr solid ↦ rw solid solid
    ]

digit_below_ten : (b : ℕ) → is_digit b ≡ true → digit_value b < 10
digit_below_ten b digit =
    let both = and_parts (nat_le 48 b) (nat_le b 57) digit in
    omega (arith, digit_value_digit b (leb-true 48 b both.0, leb-true b 57 both.1), leb-true b 57 both.1)

-- the digits in front are digits
front_digits : (bytes : List ℕ) → AllDigits 10 (take (prefix_len is_digit bytes) bytes)
front_digits [] = tt
front_digits (b ∷ bytes) =
    let more : 1 + prefix_len is_digit bytes ≡ suc (prefix_len is_digit bytes) = omega arith in
    elim (cases_Bool (is_digit b)) [
      | inl digit ↦ rw (digit, more) (digit_below_ten b digit, front_digits bytes)
      | inr stops ↦ rw stops tt
    ]

-- a digit and the digits after it are a numeral
pub digits_are_numeral : (b : ℕ) (bytes : List ℕ) → is_digit b ≡ true
    → IsNumeral 10 (b ∷ take (prefix_len is_digit bytes) bytes)
digits_are_numeral b bytes digit = (omega arith, (digit_below_ten b digit, front_digits bytes))

-- without bytes there are no tokens
pub tokens_of-empty : (text : List ℕ) → length text < 1 → tokens_of text ≡ []
tokens_of-empty [] none = tokens_of-nil
tokens_of-empty (b ∷ bytes) none = absurd (omega (arith, none))

-- a comment is all that is left
pub comment_is_last : (text : List ℕ) → 1 ≤ length text → is_blank (slice_index text 0) ≡ false
    → begins_comment (slice_index text 0) (take (length text - 1) (drop 1 text)) ≡ true → tokens_of text ≡ []
comment_is_last [] some solid comment = absurd (omega (arith, some))
comment_is_last (b ∷ bytes) some solid comment =
    let code : begins_comment b bytes ≡ true = rw (take_rest (b ∷ bytes) 1) at comment in
    tokens_of-comment b bytes solid code
