-- How the tokens begin with which bytes may begin.
use Rattle.std.proofs.Common.{◌≡◌, ◌≢◌, ◌⊎◌, ℕ, suc, ◌<◌, ◌≤◌, Bool, true, false, ◌&&◌, not, ◌==◌, List, [], ◌∷◌, ◌++◌, length, Option, Some, None, find, cond, inl, inr, arith, ap, refl, sym, ◌∙◌, if◌then◌else◌}
use Rattle.std.specs.List.{prefix_len, list_all}
use Rattle.std.specs.Str.{bytes_eq}
use Rattle.std.proofs.lemmas.Bool.{cases_Bool, and_parts, not-true}
use Rattle.std.proofs.lemmas.Bool.Decides.{nat_tests}
use Rattle.std.proofs.lemmas.List.Sums.{list_all-from_AllPass}
use Rattle.std.proofs.lemmas.Slice.Eq.{bytes_eq-Decides}
use Rattle.nomos_ir.specs.declared.word.Word.{Word}
use Rattle.nomos_ir.specs.Name.{is_letter, is_digit, is_word_byte, IsWordText, IsReserved}
use Rattle.nomos_ir.specs.Word.{text_of, all_words, reserved_word}
use Rattle.nomos_syntax.specs.declared.symbol.Symbol.{Symbol}
use Rattle.nomos_syntax.specs.declared.symbol.Symbol.TheVariants as sym
use Rattle.nomos_syntax.specs.Lexeme.{Lexeme, name, reserved, number, symbol, bad}
use Rattle.nomos_syntax.specs.Longest.{IsNumberText, IsToken, MayBegin}
use Rattle.nomos_syntax.specs.Scan.{is_blank, single_symbol, double_symbol, word_lexeme}
use Rattle.nomos_syntax.specs.Spelling.{symbol_text, spelling}
use Rattle.nomos_syntax.proofs.WordLemmas.{reserved_word-text_of}

-- a byte of the first sort and then bytes of the second
abbrev pub runs : (ℕ → Bool) → (ℕ → Bool) → List ℕ → Bool
runs first each [] = false
runs first each (b ∷ bytes) = first b && list_all each bytes

abbrev pub is_word : List ℕ → Bool
is_word bytes = runs is_letter is_word_byte bytes

abbrev pub are_digits : List ℕ → Bool
are_digits bytes = runs is_digit is_digit bytes

-- the first byte is no letter, no digit and no blank
abbrev pub begins_mark : List ℕ → Bool
begins_mark [] = false
begins_mark (b ∷ bytes) = not (is_letter b) && not (is_digit b) && not (is_blank b)

-- the symbol that these bytes spell
abbrev pub symbol_of : List ℕ → Option Symbol
symbol_of [] = None
symbol_of (b ∷ []) = single_symbol b
symbol_of (b ∷ c ∷ []) = cond (b == 45 && c == 111) (Some sym.Lollipop) (double_symbol b c)
symbol_of (b ∷ c ∷ d ∷ bytes) = None

-- the token that these bytes spell, if they spell one
abbrev symbol_or_bad : Option Symbol → Lexeme
symbol_or_bad (Some s) = symbol s
symbol_or_bad None = bad 0

abbrev token_of : List ℕ → Lexeme
token_of bytes =
    if is_word bytes then word_lexeme (reserved_word bytes) bytes
    else (if are_digits bytes then number bytes else symbol_or_bad (symbol_of bytes))

-- a symbol is read from its bytes, and begins with a mark
pub symbol_read : (s : Symbol) →
    (symbol_of (symbol_text s) ≡ Some s) × (begins_mark (symbol_text s) ≡ true) × (token_of (symbol_text s) ≡ symbol s)
symbol_read sym.OpenParen = (refl, refl, refl)
symbol_read sym.CloseParen = (refl, refl, refl)
symbol_read sym.OpenBrace = (refl, refl, refl)
symbol_read sym.CloseBrace = (refl, refl, refl)
symbol_read sym.Comma = (refl, refl, refl)
symbol_read sym.Semicolon = (refl, refl, refl)
symbol_read sym.Colon = (refl, refl, refl)
symbol_read sym.Dot = (refl, refl, refl)
symbol_read sym.Equals = (refl, refl, refl)
symbol_read sym.Plus = (refl, refl, refl)
symbol_read sym.Minus = (refl, refl, refl)
symbol_read sym.Star = (refl, refl, refl)
symbol_read sym.Slash = (refl, refl, refl)
symbol_read sym.Percent = (refl, refl, refl)
symbol_read sym.Less = (refl, refl, refl)
symbol_read sym.Greater = (refl, refl, refl)
symbol_read sym.Bar = (refl, refl, refl)
symbol_read sym.Ampersand = (refl, refl, refl)
symbol_read sym.Arrow = (refl, refl, refl)
symbol_read sym.FatArrow = (refl, refl, refl)
symbol_read sym.DoubleColon = (refl, refl, refl)
symbol_read sym.Wedge = (refl, refl, refl)
symbol_read sym.Lollipop = (refl, refl, refl)

-- what is found passes the test that found it, and each test that all pass
find_passes : (test each : Word → Bool) (words : List Word) (w : Word) → find test words ≡ Some w →
    list_all each words ≡ true → (test w ≡ true) × (each w ≡ true)
find_passes test each [] w is all = cc
find_passes test each (v ∷ words) w is all =
    let both = and_parts (each v) (list_all each words) all in
    elim (cases_Bool (test v)) [
      | inl passes ↦ let here = rw passes at is in let same : v ≡ w = cc in rw (← same) (passes, both.0)
      | inr stops ↦ find_passes test each words w (rw stops at is) both.1
    ]

-- a reserved word is a word
reserved_is_word : (w : Word) → is_word (text_of w) ≡ true
unfolding reserved_word
reserved_is_word w =
    let same = λ (v : Word). bytes_eq (text_of v) (text_of w) in
    (find_passes same (λ v. is_word (text_of v)) all_words w (reserved_word-text_of w) refl).1

-- a name is a word
name_is_word : (text : List ℕ) → IsWordText text → is_word text ≡ true
name_is_word [] word = absurd (omega (arith, word.first.0))
name_is_word (b ∷ bytes) word =
    let letter : is_letter b ≡ true = word.first.1 in
    let all = list_all-from_AllPass is_word_byte (b ∷ bytes) word.each in
    let each = and_parts (is_word_byte b) (list_all is_word_byte bytes) all in
    rw (letter, each.1) refl

-- a number is digits
number_is_number : (digits : List ℕ) → IsNumberText digits → are_digits digits ≡ true
number_is_number [] is = absurd (omega (arith, is.not_empty))
number_is_number (b ∷ bytes) is = list_all-from_AllPass is_digit (b ∷ bytes) is.each

-- a token is spelled as a word, as a number, or by a symbol
pub shape : (lexeme : Lexeme) → IsToken lexeme →
    (is_word (spelling lexeme) ≡ true) ⊎ ((are_digits (spelling lexeme) ≡ true) ⊎ ((s : Symbol) × (lexeme ≡ symbol s)))
shape (name text) is = inl (name_is_word text is.word)
shape (reserved w) is = inl (reserved_is_word w)
shape (number digits) is = inr (inl (number_is_number digits is))
shape (symbol s) is = inr (inr (s, refl))
shape (bad byte) is = absurd is

-- so it has a byte
runs_some : (first each : ℕ → Bool) (bytes : List ℕ) → runs first each bytes ≡ true → 0 < length bytes
runs_some first each [] is = cc
runs_some first each (b ∷ bytes) is = omega arith

mark_some : (bytes : List ℕ) → begins_mark bytes ≡ true → 0 < length bytes
mark_some [] is = cc
mark_some (b ∷ bytes) is = omega arith

pub token_some : (lexeme : Lexeme) → IsToken lexeme → 0 < length (spelling lexeme)
token_some lexeme is = elim (shape lexeme is) [
  | inl word ↦ runs_some is_letter is_word_byte (spelling lexeme) word
  | inr rest ↦ elim rest [
    | inl digits ↦ runs_some is_digit is_digit (spelling lexeme) digits
    | inr mark ↦ rw mark.1 (mark_some (symbol_text mark.0) (symbol_read mark.0).1)
  ]
]

-- a letter is no digit and no blank, and a digit is no letter and no blank
pub letter_alone : (b : ℕ) → is_letter b ≡ true → (is_digit b ≡ false) × (is_blank b ≡ false)
letter_alone b letter = (grind (arith, nat_tests), grind (arith, nat_tests))

pub digit_alone : (b : ℕ) → is_digit b ≡ true → (is_letter b ≡ false) × (is_blank b ≡ false)
digit_alone b digit = (grind (arith, nat_tests), grind (arith, nat_tests))

-- bytes that go on as a run begin with such a byte, and the run reaches as far as they do
prefix_within : (p : ℕ → Bool) (xs behind : List ℕ) → list_all p xs ≡ true → length xs ≤ prefix_len p (xs ++ behind)
prefix_within p [] behind all = omega arith
prefix_within p (x ∷ xs) behind all =
    let both = and_parts (p x) (list_all p xs) all in
    let more = prefix_within p xs behind both.1 in
    rw both.0 (omega (arith, more))

pub run_within : (first each : ℕ → Bool) (xs behind : List ℕ) (b : ℕ) (after : List ℕ) → runs first each xs ≡ true →
    xs ++ behind ≡ b ∷ after → (first b ≡ true) × (length xs ≤ suc (prefix_len each after))
run_within first each [] behind b after is split = cc
run_within first each (x ∷ xs) behind b after is split =
    let both = and_parts (first x) (list_all each xs) is in
    let head : x ≡ b = cc in
    let tail : xs ++ behind ≡ after = cc in
    let more = prefix_within each xs behind both.1 in
    rw (← head, ← tail) (both.0, omega (arith, more))

-- bytes that begin with a mark
pub mark_alone : (xs behind : List ℕ) (b : ℕ) (after : List ℕ) → begins_mark xs ≡ true → xs ++ behind ≡ b ∷ after →
    (is_letter b ≡ false) × (is_digit b ≡ false) × (is_blank b ≡ false)
mark_alone [] behind b after is split = cc
mark_alone (x ∷ xs) behind b after is split =
    let head : x ≡ b = cc in
    let front = and_parts (not (is_letter x) && not (is_digit x)) (not (is_blank x)) is in
    let both = and_parts (not (is_letter x)) (not (is_digit x)) front.0 in
    rw (← head) (not-true (is_letter x) both.0, not-true (is_digit x) both.1, not-true (is_blank x) front.1)

-- a token is the one that its bytes spell
free_word : (text : List ℕ) (reading : Option Word) → reserved_word text ≡ reading → ¬ IsReserved text →
    word_lexeme reading text ≡ name text
unfolding reserved_word
free_word text None is free = refl
free_word text (Some w) is free =
    let passes = find_passes (λ v. bytes_eq (text_of v) text) (λ v. true) all_words w is refl in
    absurd (free (w, (bytes_eq-Decides (text_of w) text).0 passes.0))

digits_no_word : (digits : List ℕ) → are_digits digits ≡ true → is_word digits ≡ false
digits_no_word [] is = refl
digits_no_word (b ∷ bytes) is =
    let both = and_parts (is_digit b) (list_all is_digit bytes) is in
    rw (digit_alone b both.0).0 refl

token_read : (lexeme : Lexeme) → IsToken lexeme → token_of (spelling lexeme) ≡ lexeme
token_read (name text) is = rw (name_is_word text is.word) (free_word text (reserved_word text) refl is.free)
token_read (reserved w) is = rw (reserved_is_word w, reserved_word-text_of w) refl
token_read (number digits) is =
    let run = number_is_number digits is in
    rw (digits_no_word digits run, run) refl
token_read (symbol s) is = (symbol_read s).2
token_read (bad byte) is = absurd is

-- tokens that are spelled alike are the same
pub same_token : (a b : Lexeme) → IsToken a → IsToken b → spelling a ≡ spelling b → a ≡ b
same_token a b is also same = sym (token_read a is) ∙ ap token_of same ∙ token_read b also

-- a symbol is `-o` or another one
lollipop_or_other : (s : Symbol) → (s ≡ sym.Lollipop) ⊎ (s ≢ sym.Lollipop)
lollipop_or_other sym.Lollipop = inl refl
lollipop_or_other s = inr (λ is. cc)

-- a token that is no `-o` may begin where its bytes stand
pub begins_plainly : (other : Lexeme) (behind bytes : List ℕ) → IsToken other → spelling other ++ behind ≡ bytes →
    MayBegin bytes other ⊎ (other ≡ symbol sym.Lollipop)
begins_plainly (name text) behind bytes is split =
    inl (record { token = is; behind = behind; split = split; apart = λ same. cc })
begins_plainly (reserved w) behind bytes is split =
    inl (record { token = is; behind = behind; split = split; apart = λ same. cc })
begins_plainly (number digits) behind bytes is split =
    inl (record { token = is; behind = behind; split = split; apart = λ same. cc })
begins_plainly (symbol s) behind bytes is split = elim (lollipop_or_other s) [
  | inl same ↦ inr (ap symbol same)
  | inr differs ↦ inl (record { token = is; behind = behind; split = split; apart = λ same. absurd (differs (cc)) })
]
begins_plainly (bad byte) behind bytes is split = absurd is
