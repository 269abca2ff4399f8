-- A token consists of the bytes of its piece.
use Rattle.std.proofs.Common.{◌≡◌, ℕ, suc, Bool, true, ◌&&◌, not, ◌==◌, List, [], ◌∷◌, take, Option, Some, None, IfSome, find, cond, inl, inr, arith, refl}
use Rattle.std.specs.List.{prefix_len}
use Rattle.std.specs.Str.{bytes_eq}
use Rattle.std.proofs.lemmas.Bool.{cases_Bool, and_parts, eqb-true}
use Rattle.std.proofs.lemmas.Slice.Eq.{bytes_eq-Decides}
use Rattle.nomos_ir.specs.declared.word.Word.{Word}
use Rattle.nomos_ir.specs.Name.{is_letter, is_digit, is_word_byte}
use Rattle.nomos_ir.specs.Word.{text_of, all_words, reserved_word}
use Rattle.nomos_syntax.specs.declared.symbol.Symbol.{Symbol}
use Rattle.nomos_syntax.specs.declared.symbol.Symbol.TheVariants as sym
use Rattle.nomos_syntax.specs.Spelling.{symbol_text, spelling}
use Rattle.nomos_syntax.specs.Scan.{Piece, is_blank, begins_comment, begins_lollipop, double_symbol, single_symbol, longest_symbol, word_lexeme, run_of, one_byte_piece, two_byte_piece, piece_at}
use Rattle.nomos_syntax.specs.Found.{first_piece}
use Rattle.nomos_syntax.proofs.PieceLemmas.{piece_at-blank, piece_at-comment, piece_at-word, piece_at-number, piece_at-symbol}

-- what is found passes the test
find_passes : (test : Word → Bool) (words : List Word) (w : Word) → find test words ≡ Some w → test w ≡ true
find_passes test [] w is = cc
find_passes test (v ∷ words) w is = elim (cases_Bool (test v)) [
  | inl passes ↦ let same = rw passes at is in let here : v ≡ w = cc in rw (← here) passes
  | inr stops ↦ find_passes test words w (rw stops at is)
]

-- a reserved word has its own bytes
reserved_spelled : (text : List ℕ) (reading : Option Word) → reserved_word text ≡ reading
    → spelling (word_lexeme reading text) ≡ text
unfolding reserved_word
reserved_spelled text (Some w) is =
    let passes = find_passes (λ v. bytes_eq (text_of v) text) all_words w is in
    grind (arith, bytes_eq-Decides (text_of w) text, passes)
reserved_spelled text None is = refl

-- one case of a choice among symbols of one byte
one_of : (b k : ℕ) (s : Symbol) (others : Option Symbol) → symbol_text s ≡ k ∷ []
    → IfSome others (λ t. symbol_text t ≡ b ∷ []) → IfSome (cond (b == k) (Some s) others) (λ t. symbol_text t ≡ b ∷ [])
one_of b k s others here there = elim (cases_Bool (b == k)) [
  | inl same ↦ rw (same, here, eqb-true b k same) refl
  | inr other ↦ rw other there
]

-- one case of a choice among symbols of two bytes
two_of : (b c k l : ℕ) (s : Symbol) (others : Option Symbol) → symbol_text s ≡ k ∷ l ∷ []
    → IfSome others (λ t. symbol_text t ≡ b ∷ c ∷ [])
    → IfSome (cond (b == k && c == l) (Some s) others) (λ t. symbol_text t ≡ b ∷ c ∷ [])
two_of b c k l s others here there = elim (cases_Bool (b == k && c == l)) [
  | inl same ↦
      let both = and_parts (b == k) (c == l) same in
      rw (same, here, eqb-true b k both.0, eqb-true c l both.1) refl
  | inr other ↦ rw other there
]

-- a symbol of one byte is that byte
single_spelled : (b : ℕ) → IfSome (single_symbol b) (λ s. symbol_text s ≡ b ∷ [])
single_spelled b =
    one_of b 40 sym.OpenParen _ refl
    (one_of b 41 sym.CloseParen _ refl
    (one_of b 123 sym.OpenBrace _ refl
    (one_of b 125 sym.CloseBrace _ refl
    (one_of b 44 sym.Comma _ refl (one_of b 59 sym.Semicolon _ refl
    (one_of b 58 sym.Colon _ refl (one_of b 46 sym.Dot _ refl
    (one_of b 61 sym.Equals _ refl
    (one_of b 43 sym.Plus _ refl (one_of b 45 sym.Minus _ refl
    (one_of b 42 sym.Star _ refl (one_of b 47 sym.Slash _ refl
    (one_of b 37 sym.Percent _ refl
    (one_of b 60 sym.Less _ refl (one_of b 62 sym.Greater _ refl
    (one_of b 124 sym.Bar _ refl (one_of b 38 sym.Ampersand None refl tt)))))))))))))))))

-- a symbol of two bytes is these two
double_spelled : (b c : ℕ) → IfSome (double_symbol b c) (λ s. symbol_text s ≡ b ∷ c ∷ [])
double_spelled b c =
    two_of b c 45 62 sym.Arrow _ refl
    (two_of b c 61 62 sym.FatArrow _ refl
    (two_of b c 58 58 sym.DoubleColon _ refl (two_of b c 47 92 sym.Wedge None refl tt)))

-- `-o` is these two bytes
lollipop_spelled : (b c : ℕ) (bytes : List ℕ) → begins_lollipop b (c ∷ bytes) ≡ true
    → symbol_text sym.Lollipop ≡ b ∷ c ∷ []
lollipop_spelled b c [] h =
    let both = and_parts (b == 45) (c == 111) h in rw (eqb-true b 45 both.0, eqb-true c 111 both.1) refl
lollipop_spelled b c (d ∷ bytes) h =
    let front = and_parts (b == 45 && c == 111) (not (is_word_byte d)) h in
    let both = and_parts (b == 45) (c == 111) front.0 in
    rw (eqb-true b 45 both.0, eqb-true c 111 both.1) refl

-- the longest symbol is the next two bytes
longest_spelled : (b : ℕ) (bytes : List ℕ) → IfSome (longest_symbol b bytes) (λ s. symbol_text s ≡ b ∷ take 1 bytes)
longest_spelled b [] = tt
longest_spelled b (c ∷ bytes) = elim (cases_Bool (begins_lollipop b (c ∷ bytes))) [
  | inl begins ↦ rw begins (lollipop_spelled b c bytes begins)
  | inr other ↦ rw other (double_spelled b c)
]

-- a piece that is a token consists of the bytes of that token
abbrev IsSpelled : ℕ → List ℕ → Piece → Type 0
IsSpelled b bytes piece = IfSome piece.lexeme (λ lexeme. spelling lexeme ≡ b ∷ take piece.more bytes)

symbol_spelled : (b : ℕ) (bytes : List ℕ) (two one : Option Symbol) → IfSome two (λ s. symbol_text s ≡ b ∷ take 1 bytes)
    → IfSome one (λ s. symbol_text s ≡ b ∷ []) → IsSpelled b bytes (two_byte_piece two (one_byte_piece b one))
symbol_spelled b bytes (Some s) one h k = h
symbol_spelled b bytes None (Some s) h k = k
symbol_spelled b bytes None None h k = refl

piece_spelled : (b : ℕ) (bytes : List ℕ) → IsSpelled b bytes (piece_at b bytes)
piece_spelled b bytes = elim (cases_Bool (is_blank b)) [
  | inl blank ↦ rw (piece_at-blank b bytes blank) tt
  | inr solid ↦ elim (cases_Bool (begins_comment b bytes)) [
    | inl comment ↦ rw (piece_at-comment b bytes solid comment) tt
    | inr code ↦ elim (cases_Bool (is_letter b)) [
      | inl letter ↦
          let text = run_of b (prefix_len is_word_byte bytes) bytes in
          rw (piece_at-word b bytes solid code letter) (reserved_spelled text (reserved_word text) refl)
      | inr other ↦ elim (cases_Bool (is_digit b)) [
        | inl digit ↦ rw (piece_at-number b bytes solid code other digit) refl
        | inr rest ↦ rw (piece_at-symbol b bytes solid code other rest)
            (symbol_spelled b bytes (longest_symbol b bytes) (single_symbol b) (longest_spelled b bytes)
            (single_spelled b))
      ]
    ]
  ]
]

-- the first piece of bytes, if it is a token, consists of their front
pub first_piece_spelled : (bytes : List ℕ)
    → IfSome (first_piece bytes).lexeme (λ lexeme. spelling lexeme ≡ take (suc (first_piece bytes).more) bytes)
first_piece_spelled [] = tt
first_piece_spelled (b ∷ bytes) = piece_spelled b bytes
