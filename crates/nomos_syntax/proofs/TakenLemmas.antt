-- The piece that begins at a byte is what is taken there, and nothing else is.
use Rattle.std.proofs.Common.{◌≡◌, ◌≢◌, ◌⊎◌, ℕ, suc, ◌<◌, ◌≤◌, true, false, ◌&&◌, ◌==◌, List, [], ◌∷◌, ◌++◌, length, take, drop, Option, Some, None, IsSome, IsTrue, All, inl, inr, arith, ap, refl, sym, ◌∙◌}
use Rattle.std.specs.List.{prefix_len}
use Rattle.std.proofs.Math.Seq.{take-append_seam}
use Rattle.std.proofs.lemmas.Bool.{cases_Bool, cases_lt, cases_order, and_parts, eqb-true}
use Rattle.std.proofs.lemmas.List.{take-append-drop, length-take-le, get_or-take, length-append}
use Rattle.std.proofs.lemmas.List.Elements.{All-cons, All-head}
use Rattle.std.proofs.lemmas.List.Folds.{length-prefix_len}
use Rattle.std.proofs.lemmas.List.Sums.{prefix_len-le-length, prefix_len_passes}
use Rattle.nomos_ir.specs.declared.word.Word.{Word}
use Rattle.nomos_ir.specs.Name.{is_letter, is_digit, is_word_byte}
use Rattle.nomos_ir.specs.Word.{reserved_word}
use Rattle.nomos_syntax.specs.declared.symbol.Symbol.{Symbol}
use Rattle.nomos_syntax.specs.declared.symbol.Symbol.TheVariants as sym
use Rattle.nomos_syntax.specs.Lexeme.{Lexeme, name, reserved, number, symbol, bad}
use Rattle.nomos_syntax.specs.Longest.{IsNumberText, IsToken, EndsWord, MayBegin, IsLongest, IsBadByte, BeginsComment, IsTaken}
use Rattle.nomos_syntax.specs.NamedTokens.{IsWellNamed}
use Rattle.nomos_syntax.specs.Scan.{is_blank, begins_comment, single_symbol, longest_symbol, word_lexeme, run_of, one_byte_piece, two_byte_piece, piece_at, placed_at, tokens_from}
use Rattle.nomos_syntax.specs.Spelling.{symbol_text, spelling}
use Rattle.nomos_syntax.proofs.BeginningLemmas.{symbol_of, symbol_read, shape, letter_alone, digit_alone, run_within, mark_alone, same_token, token_some, begins_plainly}
use Rattle.nomos_syntax.proofs.NameLaws.{names_are_names}
use Rattle.nomos_syntax.proofs.PieceLemmas.{piece_at-word, piece_at-number, piece_at-symbol}
use Rattle.nomos_syntax.proofs.SpellingLemmas.{first_piece_spelled}

-- two fronts of the same bytes, of one length, are the same
pub same_front : (xs ys u v : List ℕ) → xs ++ u ≡ ys ++ v → length xs ≡ length ys → xs ≡ ys
same_front xs ys u v same long =
    let other : take (length xs) (ys ++ v) ≡ ys = rw long (take-append_seam ys v) in
    sym (take-append_seam xs u) ∙ ap (take (length xs)) same ∙ other

-- two tokens of one length with which bytes may begin are the same
same_begin : (bytes : List ℕ) (a b : Lexeme) → MayBegin bytes a → MayBegin bytes b →
    length (spelling a) ≡ length (spelling b) → a ≡ b
same_begin bytes a b m n long =
    same_token a b m.token n.token (same_front (spelling a) (spelling b) m.behind n.behind (m.split ∙ sym n.split) long)

-- a token that no other one is longer than is the longest, and the only one
longest_by : (bytes : List ℕ) (lexeme : Lexeme) → MayBegin bytes lexeme →
    ((other : Lexeme) → MayBegin bytes other → length (spelling other) ≤ length (spelling lexeme)) →
    IsLongest bytes lexeme
longest_by bytes lexeme begins below = record {
  begins = begins;
  shorter = λ other m differs. elim (cases_lt (length (spelling other)) (length (spelling lexeme))) [
    | inl less ↦ less
    | inr more ↦ absurd (differs (same_begin bytes other lexeme m begins (omega (arith, below other m, more))))
  ];
}

longest_once : (bytes : List ℕ) (a b : Lexeme) → IsLongest bytes a → IsLongest bytes b → a ≡ b
longest_once bytes a b m n = elim (cases_order (length (spelling a)) (length (spelling b))) [
  | inl long ↦ same_begin bytes a b m.begins n.begins long
  | inr uneven ↦ elim uneven [
    | inl less ↦
        let differs : b ≢ a = λ same. omega (arith, less, ap (λ l. length (spelling l)) same) in
        absurd (omega (arith, less, m.shorter b n.begins differs))
    | inr less ↦
        let differs : a ≢ b = λ same. omega (arith, less, ap (λ l. length (spelling l)) same) in
        absurd (omega (arith, less, n.shorter a m.begins differs))
  ]
]

-- what is taken is the longest token, or a bad byte
taken_from : (bytes : List ℕ) (lexeme : Lexeme) → ¬ BeginsComment bytes → IsLongest bytes lexeme → IsTaken bytes lexeme
taken_from bytes (name text) code longest = (code, longest)
taken_from bytes (reserved w) code longest = (code, longest)
taken_from bytes (number digits) code longest = (code, longest)
taken_from bytes (symbol s) code longest = (code, longest)
taken_from bytes (bad byte) code longest = absurd longest.begins.token

pub taken_as : (bytes : List ℕ) (lexeme : Lexeme) → IsTaken bytes lexeme →
    (¬ BeginsComment bytes × IsLongest bytes lexeme) ⊎ ((byte : ℕ) × (lexeme ≡ bad byte) × IsBadByte bytes byte)
taken_as bytes (name text) t = inl t
taken_as bytes (reserved w) t = inl t
taken_as bytes (number digits) t = inl t
taken_as bytes (symbol s) t = inl t
taken_as bytes (bad byte) t = inr (byte, refl, t)

-- where a byte is bad, no token may begin
bad_begins_none : (bytes : List ℕ) (byte : ℕ) → IsBadByte bytes byte → (lexeme : Lexeme) → ¬ MayBegin bytes lexeme
bad_begins_none bytes byte is lexeme m = is.no_token lexeme m.behind m.token m.split

-- nothing else is taken there
pub taken_once : (bytes : List ℕ) (a b : Lexeme) → IsTaken bytes a → IsTaken bytes b → a ≡ b
taken_once bytes a b m n = elim (taken_as bytes a m) [
  | inl first ↦ elim (taken_as bytes b n) [
    | inl second ↦ longest_once bytes a b first.1 second.1
    | inr second ↦ absurd (bad_begins_none bytes second.0 second.2 a first.1.begins)
  ]
  | inr first ↦ elim (taken_as bytes b n) [
    | inl second ↦ absurd (bad_begins_none bytes first.0 first.2 b second.1.begins)
    | inr second ↦
        let split = first.2.first ∙ sym second.2.first in
        let same : first.0 ≡ second.0 = cc in
        first.1 ∙ ap bad same ∙ sym second.1
  ]
]

-- where no comment is seen, none begins
no_comment : (b : ℕ) (after : List ℕ) → begins_comment b after ≡ false → ¬ BeginsComment (b ∷ after)
no_comment b [] code begins = let split = begins.1 in cc
no_comment b (c ∷ after) code begins =
    let split = begins.1 in
    let first : 47 ≡ b = cc in
    let second : 47 ≡ c = cc in
    let seen = rw (← first, ← second) at code in
    cc

-- What was taken at a byte, and how the bytes go on behind it.
pub record Takes (b : ℕ) (after : List ℕ) : Type 0 where
  pub lexeme : Lexeme
  pub is : (piece_at b after).lexeme ≡ Some lexeme
  pub taken : IsTaken (b ∷ after) lexeme
  pub long : length (spelling lexeme) ≡ suc (piece_at b after).more
  pub split : spelling lexeme ++ drop (piece_at b after).more after ≡ b ∷ after

-- the bytes of a piece, and those behind it
record Fronts (b : ℕ) (after : List ℕ) (lexeme : Lexeme) (n : ℕ) : Type 0 where
  pub spelled : spelling lexeme ≡ b ∷ take n after
  pub long : length (spelling lexeme) ≡ suc n
  pub split : spelling lexeme ++ drop n after ≡ b ∷ after

fronts : (b : ℕ) (after : List ℕ) (lexeme : Lexeme) (n : ℕ) →
    piece_at b after ≡ record { lexeme = Some lexeme; more = n } → n ≤ length after → Fronts b after lexeme n
fronts b after lexeme n piece within =
    let spelled : spelling lexeme ≡ b ∷ take n after = rw piece at (first_piece_spelled (b ∷ after)) in
    record {
      spelled = spelled;
      long = rw spelled (ap suc (length-take-le n after within));
      split = rw spelled (ap (λ bytes. b ∷ bytes) (take-append-drop n after));
    }

-- a token that is found, and that no other one is longer than, is taken
takes_token : (b : ℕ) (after : List ℕ) (lexeme : Lexeme) (n : ℕ) →
    piece_at b after ≡ record { lexeme = Some lexeme; more = n } → n ≤ length after → begins_comment b after ≡ false →
    IsToken lexeme → (lexeme ≡ symbol sym.Lollipop → EndsWord (drop n after)) →
    ((other : Lexeme) → MayBegin (b ∷ after) other → length (spelling other) ≤ suc n) → Takes b after
takes_token b after lexeme n piece within code token apart below =
    let front = fronts b after lexeme n piece within in
    let begins : MayBegin (b ∷ after) lexeme =
    record { token = token; behind = drop n after; split = front.split; apart = apart } in
    let longest = longest_by (b ∷ after) lexeme begins (λ other m. rw front.long (below other m)) in
    record {
      lexeme = lexeme;
      is = rw piece refl;
      taken = taken_from (b ∷ after) lexeme (no_comment b after code) longest;
      long = rw piece front.long;
      split = rw piece front.split;
    }

-- a name among the pieces is well named
piece_well_named : (b : ℕ) (after : List ℕ) (lexeme : Lexeme) → (piece_at b after).lexeme ≡ Some lexeme →
    IsWellNamed lexeme
unfolding tokens_from
piece_well_named b after lexeme is =
    let piece = piece_at b after in
    let rest = tokens_from 1 piece.more after in
    let named : All (λ token. IsWellNamed token.lexeme) (placed_at 0 piece.lexeme ++ rest) =
    names_are_names (b ∷ after) in
    let first = rw is at named in
    All-head (λ token. IsWellNamed token.lexeme) (record { at = 0; lexeme = lexeme }) rest first

word_token : (text : List ℕ) (reading : Option Word) → IsWellNamed (word_lexeme reading text) →
    IsToken (word_lexeme reading text)
word_token text (Some w) named = tt
word_token text None named = named

word_no_symbol : (text : List ℕ) (reading : Option Word) (s : Symbol) → word_lexeme reading text ≡ symbol s → ⊥
word_no_symbol text (Some w) s is = cc
word_no_symbol text None s is = cc

-- where a letter stands, a word is taken
takes_word : (b : ℕ) (after : List ℕ) → is_blank b ≡ false → begins_comment b after ≡ false → is_letter b ≡ true →
    Takes b after
takes_word b after solid code letter =
    let n = prefix_len is_word_byte after in
    let text = run_of b n after in
    let lexeme = word_lexeme (reserved_word text) text in
    let piece = piece_at-word b after solid code letter in
    let named : IsWellNamed lexeme = piece_well_named b after lexeme (rw piece refl) in
    let token = word_token text (reserved_word text) named in
    takes_token b after lexeme n piece (prefix_len-le-length is_word_byte after) code token
    (λ is. absurd (word_no_symbol text (reserved_word text) sym.Lollipop is))
    (λ other m. elim (shape other m.token) [
      | inl word ↦ (run_within is_letter is_word_byte (spelling other) m.behind b after word m.split).1
      | inr rest ↦ elim rest [
        | inl digits ↦
            let digit = (run_within is_digit is_digit (spelling other) m.behind b after digits m.split).0 in
            let none = (letter_alone b letter).0 in
            cc
        | inr mark ↦
            let begins = (symbol_read mark.0).1 in
            let split : symbol_text mark.0 ++ m.behind ≡ b ∷ after = rw mark.1 at m.split in
            let none = (mark_alone (symbol_text mark.0) m.behind b after begins split).0 in
            cc
      ]
    ])

-- the digits in front are a number
digits_are_number : (b : ℕ) (after : List ℕ) → is_digit b ≡ true →
    IsNumberText (run_of b (prefix_len is_digit after) after)
digits_are_number b after digit =
    let n = prefix_len is_digit after in
    let rest : All (λ byte. IsTrue (is_digit byte)) (take n after) = λ k d below.
    let inside : k < n = omega (arith, below, length-prefix_len is_digit after) in
    rw (get_or-take n after k d inside) (prefix_len_passes is_digit after k d inside) in
    record {
      not_empty = omega arith;
      each = All-cons (λ byte. IsTrue (is_digit byte)) b (take n after) digit rest;
    }

-- where a digit stands, a number is taken
takes_number : (b : ℕ) (after : List ℕ) → is_blank b ≡ false → begins_comment b after ≡ false → is_letter b ≡ false →
    is_digit b ≡ true → Takes b after
takes_number b after solid code other digit =
    let n = prefix_len is_digit after in
    let piece = piece_at-number b after solid code other digit in
    let token = digits_are_number b after digit in
    takes_token b after (number (run_of b n after)) n piece (prefix_len-le-length is_digit after) code token
    (λ is. cc)
    (λ longer m. elim (shape longer m.token) [
      | inl word ↦
          let letter = (run_within is_letter is_word_byte (spelling longer) m.behind b after word m.split).0 in
          cc
      | inr rest ↦ elim rest [
        | inl digits ↦ (run_within is_digit is_digit (spelling longer) m.behind b after digits m.split).1
        | inr mark ↦
            let begins = (symbol_read mark.0).1 in
            let split : symbol_text mark.0 ++ m.behind ≡ b ∷ after = rw mark.1 at m.split in
            let none = (mark_alone (symbol_text mark.0) m.behind b after begins split).1 in
            cc
      ]
    ])

-- two bytes that spell a symbol are found, `-o` where no word goes on
two_found : (x y : ℕ) (behind : List ℕ) (s : Symbol) → symbol_of (x ∷ y ∷ []) ≡ Some s →
    (s ≡ sym.Lollipop → EndsWord behind) → longest_symbol x (y ∷ behind) ≡ Some s
two_found x y [] s is apart = is
two_found x y (d ∷ bytes) s is apart = elim (cases_Bool (x == 45 && y == 111)) [
  | inl both ↦
      let found = rw both at is in
      let same : s ≡ sym.Lollipop = cc in
      let ends : is_word_byte d ≡ false = apart same in
      rw (both, ends) found
  | inr other ↦ let found = rw other at is in rw other found
]

-- a symbol that the bytes spell in front is found there
symbol_found : (xs behind : List ℕ) (s : Symbol) (b : ℕ) (after : List ℕ) → symbol_of xs ≡ Some s →
    (s ≡ sym.Lollipop → EndsWord behind) → xs ++ behind ≡ b ∷ after →
    ((length xs ≡ 1) × (single_symbol b ≡ Some s)) ⊎ ((length xs ≡ 2) × (longest_symbol b after ≡ Some s))
symbol_found [] behind s b after is apart split = cc
symbol_found (x ∷ []) behind s b after is apart split = let head : x ≡ b = cc in inl (omega arith, rw (← head) is)
symbol_found (x ∷ y ∷ []) behind s b after is apart split =
    let head : x ≡ b = cc in
    let tail : y ∷ behind ≡ after = cc in
    inr (omega arith, rw (← head, ← tail) (two_found x y behind s is apart))
symbol_found (x ∷ y ∷ z ∷ xs) behind s b after is apart split = cc

-- a token with which bytes may begin that begin with no letter and no digit
may_begin_symbol : (b : ℕ) (after : List ℕ) (lexeme : Lexeme) → is_letter b ≡ false → is_digit b ≡ false →
    MayBegin (b ∷ after) lexeme →
    ((length (spelling lexeme) ≡ 1) × IsSome (single_symbol b)) ⊎
    ((length (spelling lexeme) ≡ 2) × IsSome (longest_symbol b after))
may_begin_symbol b after lexeme other rest m = elim (shape lexeme m.token) [
  | inl word ↦
      let letter = (run_within is_letter is_word_byte (spelling lexeme) m.behind b after word m.split).0 in
      cc
  | inr more ↦ elim more [
    | inl digits ↦
        let digit = (run_within is_digit is_digit (spelling lexeme) m.behind b after digits m.split).0 in
        cc
    | inr mark ↦
        let split : symbol_text mark.0 ++ m.behind ≡ b ∷ after = rw mark.1 at m.split in
        let read = (symbol_read mark.0).0 in
        let apart : mark.0 ≡ sym.Lollipop → EndsWord m.behind = λ same. m.apart (mark.1 ∙ ap symbol same) in
        elim (symbol_found (symbol_text mark.0) m.behind mark.0 b after read apart split) [
          | inl one ↦ inl (rw mark.1 one.0, rw one.1 refl)
          | inr two ↦ inr (rw mark.1 two.0, rw two.1 refl)
        ]
  ]
]

-- behind `-o`, where it is found, no word goes on
lollipop_apart : (b : ℕ) (after : List ℕ) → longest_symbol b after ≡ Some sym.Lollipop →
    symbol_text sym.Lollipop ≡ b ∷ take 1 after → EndsWord (drop 1 after)
lollipop_apart b [] is spelled = cc
lollipop_apart b (c ∷ []) is spelled = tt
lollipop_apart b (c ∷ d ∷ bytes) is spelled = elim (cases_Bool (is_word_byte d)) [
  | inl goes_on ↦
      let first : 45 ≡ b = cc in
      let second : 111 ≡ c = cc in
      let none = rw (← first, ← second, goes_on) at is in
      cc
  | inr ends ↦ ends
]

-- where no symbol is found, no token is spelled
no_symbol_spelled : (b : ℕ) (after : List ℕ) → longest_symbol b after ≡ None → single_symbol b ≡ None →
    is_letter b ≡ false → is_digit b ≡ false →
    (lexeme : Lexeme) (behind : List ℕ) → IsToken lexeme → spelling lexeme ++ behind ≢ b ∷ after
no_symbol_spelled b after longer shorter other rest lexeme behind is split =
    elim (begins_plainly lexeme behind (b ∷ after) is split) [
      | inl m ↦ elim (may_begin_symbol b after lexeme other rest m) [
        | inl single ↦ let found = rw shorter at single.1 in cc
        | inr double ↦ let found = rw longer at double.1 in cc
      ]
      | inr same ↦
          let here : 45 ∷ 111 ∷ behind ≡ b ∷ after = rw same at split in
          let first : 45 ≡ b = cc in
          let none = rw (← first) at shorter in
          cc
    ]

-- where neither a word nor a number begins, the longer symbol is taken, or the shorter one, or a bad byte
takes_symbol : (b : ℕ) (after : List ℕ) (two one : Option Symbol) → longest_symbol b after ≡ two →
    single_symbol b ≡ one → piece_at b after ≡ two_byte_piece two (one_byte_piece b one) → is_blank b ≡ false →
    begins_comment b after ≡ false → is_letter b ≡ false → is_digit b ≡ false → Takes b after
takes_symbol b [] (Some s) one longer shorter piece solid code other rest = cc
takes_symbol b (c ∷ after) (Some s) one longer shorter piece solid code other rest =
    let front = fronts b (c ∷ after) (symbol s) 1 piece (omega arith) in
    takes_token b (c ∷ after) (symbol s) 1 piece (omega arith) code tt
    (λ is.
    let same : s ≡ sym.Lollipop = cc in
    lollipop_apart b (c ∷ after) (longer ∙ ap Some same) (ap symbol_text (sym same) ∙ front.spelled))
    (λ lexeme m. elim (may_begin_symbol b (c ∷ after) lexeme other rest m) [
      | inl single ↦ omega (arith, single.0)
      | inr double ↦ omega (arith, double.0)
    ])
takes_symbol b after None (Some s) longer shorter piece solid code other rest =
    let front = fronts b after (symbol s) 0 piece (omega arith) in
    takes_token b after (symbol s) 0 piece (omega arith) code tt
    (λ is.
    let same : s ≡ sym.Lollipop = cc in
    let spelled : 45 ∷ 111 ∷ [] ≡ b ∷ [] = ap symbol_text (sym same) ∙ front.spelled in
    cc)
    (λ lexeme m. elim (may_begin_symbol b after lexeme other rest m) [
      | inl single ↦ omega (arith, single.0)
      | inr double ↦ let found = rw longer at double.1 in cc
    ])
takes_symbol b after None None longer shorter piece solid code other rest =
    let none = no_symbol_spelled b after longer shorter other rest in
    record {
      lexeme = bad b;
      is = rw piece refl;
      taken = record { behind = after; first = refl; no_blank = solid; no_token = none };
      long = rw piece (omega arith);
      split = rw piece refl;
    }

-- where no blank stands and no comment begins, something is taken
pub takes : (b : ℕ) (after : List ℕ) → is_blank b ≡ false → begins_comment b after ≡ false → Takes b after
takes b after solid code = elim (cases_Bool (is_letter b)) [
  | inl letter ↦ takes_word b after solid code letter
  | inr other ↦ elim (cases_Bool (is_digit b)) [
    | inl digit ↦ takes_number b after solid code other digit
    | inr rest ↦
        let piece = piece_at-symbol b after solid code other rest in
        takes_symbol b after (longest_symbol b after) (single_symbol b) refl refl piece solid code other rest
  ]
]

-- where something is taken, no blank stands and no comment begins
comment_begins : (b : ℕ) (after : List ℕ) → begins_comment b after ≡ true → BeginsComment (b ∷ after)
comment_begins b [] begins = cc
comment_begins b (c ∷ after) begins =
    let both = and_parts (b == 47) (c == 47) begins in
    (after, rw (eqb-true b 47 both.0, eqb-true c 47 both.1) refl)

token_solid : (b : ℕ) (after : List ℕ) (lexeme : Lexeme) → MayBegin (b ∷ after) lexeme → is_blank b ≡ false
token_solid b after lexeme m = elim (shape lexeme m.token) [
  | inl word ↦ (letter_alone b (run_within is_letter is_word_byte (spelling lexeme) m.behind b after word m.split).0).1
  | inr rest ↦ elim rest [
    | inl digits ↦ (digit_alone b (run_within is_digit is_digit (spelling lexeme) m.behind b after digits m.split).0).1
    | inr mark ↦
        let split : symbol_text mark.0 ++ m.behind ≡ b ∷ after = rw mark.1 at m.split in
        (mark_alone (symbol_text mark.0) m.behind b after (symbol_read mark.0).1 split).2
  ]
]

slash_begins : (b : ℕ) (after : List ℕ) → BeginsComment (b ∷ after) → MayBegin (b ∷ after) (symbol sym.Slash)
slash_begins b after begins =
    let split = begins.1 in
    let first : 47 ≡ b = cc in
    record { token = tt; behind = after; split = rw (← first) refl; apart = λ is. cc }

pub taken_solid : (b : ℕ) (after : List ℕ) (lexeme : Lexeme) → IsTaken (b ∷ after) lexeme →
    (is_blank b ≡ false) × (begins_comment b after ≡ false)
taken_solid b after lexeme t = elim (cases_Bool (begins_comment b after)) [
  | inl begins ↦
      let comment = comment_begins b after begins in
      elim (taken_as (b ∷ after) lexeme t) [
        | inl first ↦ absurd (first.0 comment)
        | inr none ↦
            absurd (bad_begins_none (b ∷ after) none.0 none.2 (symbol sym.Slash) (slash_begins b after comment))
      ]
  | inr code ↦ elim (taken_as (b ∷ after) lexeme t) [
    | inl first ↦ (token_solid b after lexeme first.1.begins, code)
    | inr none ↦
        let split = none.2.first in
        let same : none.0 ≡ b = cc in
        (rw (← same) none.2.no_blank, code)
  ]
]

-- where nothing is left, nothing is taken
pub taken_some : (lexeme : Lexeme) → ¬ IsTaken [] lexeme
taken_some lexeme t = elim (taken_as [] lexeme t) [
  | inl first ↦
      let m = first.1.begins in
      let some = token_some lexeme m.token in
      omega (arith, some, ap length m.split, length-append (spelling lexeme) m.behind)
  | inr none ↦ let split = none.2.first in cc
]
