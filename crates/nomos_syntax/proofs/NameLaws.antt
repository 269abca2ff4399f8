-- The names among the tokens of a text are names.
use Rattle.std.proofs.Common.{◌≡◌, ℕ, zero, suc, ◌+◌, Bool, true, List, [], ◌∷◌, take, Option, Some, None, IfSome, IsTrue, All, inl, inr, arith, refl}
use Rattle.std.specs.List.{prefix_len}
use Rattle.std.proofs.lemmas.Bool.{cases_Bool}
use Rattle.std.proofs.lemmas.List.Elements.{All-nil, All-cons, All-append}
use Rattle.nomos_ir.specs.declared.word.Word.{Word}
use Rattle.nomos_ir.specs.Name.{is_letter, is_digit, is_word_byte, IsWordText}
use Rattle.nomos_ir.specs.Word.{reserved_word}
use Rattle.nomos_syntax.specs.declared.symbol.Symbol.{Symbol}
use Rattle.nomos_syntax.specs.Lexeme.{Lexeme}
use Rattle.nomos_syntax.specs.NamedTokens.{IsWellNamed}
use Rattle.nomos_syntax.specs.Scan.{is_blank, begins_comment, word_lexeme, run_of, one_byte_piece, two_byte_piece, longest_symbol, single_symbol, piece_at, placed_at, tokens_from, tokens_of}
use Rattle.nomos_syntax.proofs.PieceLemmas.{piece_at-blank, piece_at-comment, piece_at-word, piece_at-number, piece_at-symbol}
use Rattle.nomos_syntax.proofs.WordLemmas.{not_reserved}

-- the elements that pass in front pass
front_passes : (p : ℕ → Bool) (bytes : List ℕ) → All (λ byte. IsTrue (p byte)) (take (prefix_len p bytes) bytes)
front_passes p [] = All-nil (λ byte. IsTrue (p byte))
front_passes p (b ∷ bytes) =
    let more : 1 + prefix_len p bytes ≡ suc (prefix_len p bytes) = omega arith in elim (cases_Bool (p b)) [
      | inl passes ↦ rw (passes, more)
          (All-cons (λ byte. IsTrue (p byte)) b (take (prefix_len p bytes) bytes) passes (front_passes p bytes))
      | inr stops ↦ rw stops (All-nil (λ byte. IsTrue (p byte)))
    ]

-- a letter and the bytes of words after it are a word
word_is_word : (b : ℕ) (bytes : List ℕ) → is_letter b ≡ true
    → IsWordText (run_of b (prefix_len is_word_byte bytes) bytes)
word_is_word b bytes letter = record {
  first = (omega arith, letter);
  each =
      All-cons (λ byte. IsTrue (is_word_byte byte)) b (take (prefix_len is_word_byte bytes) bytes) (rw letter refl)
      (front_passes is_word_byte bytes);
}

-- a word is reserved or a name
word_named : (text : List ℕ) (reading : Option Word) → reserved_word text ≡ reading → IsWordText text
    → IsWellNamed (word_lexeme reading text)
word_named text (Some w) is word = tt
word_named text None is word = record { word = word; free = not_reserved text is }

-- a symbol or a bad byte is no name
symbol_named : (b : ℕ) (two one : Option Symbol) → IfSome (two_byte_piece two (one_byte_piece b one)).lexeme IsWellNamed
symbol_named b (Some s) one = tt
symbol_named b None (Some s) = tt
symbol_named b None None = tt

-- a piece that is a name is one
piece_named : (b : ℕ) (bytes : List ℕ) → IfSome (piece_at b bytes).lexeme IsWellNamed
piece_named b bytes = elim (cases_Bool (is_blank b)) [
  | inl blank ↦ rw (piece_at-blank b bytes blank) tt
  | inr solid ↦ elim (cases_Bool (begins_comment b bytes)) [
    | inl comment ↦ rw (piece_at-comment b bytes solid comment) tt
    | inr code ↦ elim (cases_Bool (is_letter b)) [
      | inl letter ↦
          let text = run_of b (prefix_len is_word_byte bytes) bytes in
          rw (piece_at-word b bytes solid code letter)
          (word_named text (reserved_word text) refl (word_is_word b bytes letter))
      | inr other ↦ elim (cases_Bool (is_digit b)) [
        | inl digit ↦ rw (piece_at-number b bytes solid code other digit) tt
        | inr rest ↦ rw (piece_at-symbol b bytes solid code other rest)
            (symbol_named b (longest_symbol b bytes) (single_symbol b))
      ]
    ]
  ]
]

-- what holds of what a piece says holds of its token
All-placed_at : (P : Lexeme → Type 0) (at : ℕ) (lexeme : Option Lexeme) → IfSome lexeme P
    → All (λ token. P token.lexeme) (placed_at at lexeme)
All-placed_at P at None h = All-nil (λ token. P token.lexeme)
All-placed_at P at (Some lexeme) h =
    All-cons (λ token. P token.lexeme) (record { at = at; lexeme = lexeme }) [] h (All-nil (λ token. P token.lexeme))

-- what holds of what each piece says holds of each token
pub All-tokens_from : (P : Lexeme → Type 0) → ((b : ℕ) (bytes : List ℕ) → IfSome (piece_at b bytes).lexeme P)
    → (at inside : ℕ) (bytes : List ℕ) → All (λ token. P token.lexeme) (tokens_from at inside bytes)
unfolding tokens_from
All-tokens_from P each at inside [] = All-nil (λ token. P token.lexeme)
All-tokens_from P each at (suc inside) (b ∷ bytes) = All-tokens_from P each (suc at) inside bytes
All-tokens_from P each at zero (b ∷ bytes) =
    All-append (λ token. P token.lexeme) (placed_at at (piece_at b bytes).lexeme)
    (tokens_from (suc at) (piece_at b bytes).more bytes) (All-placed_at P at (piece_at b bytes).lexeme (each b bytes))
    (All-tokens_from P each (suc at) (piece_at b bytes).more bytes)

-- each name among the tokens of a text is a word that is not reserved
pub names_are_names : (text : List ℕ) → All (λ token. IsWellNamed token.lexeme) (tokens_of text)
names_are_names text = All-tokens_from IsWellNamed piece_named 0 0 text
