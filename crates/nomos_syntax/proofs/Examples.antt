-- The tokens of small texts.
use Rattle.std.proofs.Common.{◌≡◌, ℕ, [], ◌∷◌, ◌++◌, codes, refl}
use Rattle.nomos_ir.specs.declared.word.Word.TheVariants as word
use Rattle.nomos_ir.specs.Word.{reserved_word}
use Rattle.nomos_syntax.specs.declared.symbol.Symbol.TheVariants as sym
use Rattle.nomos_syntax.specs.Lexeme.{Lexeme, name, reserved, number, symbol, bad, Placed}
use Rattle.nomos_syntax.specs.Scan.{piece_at, tokens_from, tokens_of}

-- a token at its offset
abbrev pub token : ℕ → Lexeme → Placed
token at lexeme = record { at = at; lexeme = lexeme }

-- no bytes, no tokens
pub empty_text : tokens_of [] ≡ []
unfolding tokens_from
empty_text = refl

pub type_declaration : tokens_of (codes "type R a = 1;")
    ≡ token 0 (reserved word.«Type») ∷ token 5 (reserved word.R) ∷ token 7 (name (codes "a")) ∷
    token 9 (symbol sym.Equals) ∷ token 11 (number (codes "1")) ∷ token 12 (symbol sym.Semicolon) ∷ []
unfolding tokens_from piece_at reserved_word
type_declaration = refl

-- a comment may end with the text
pub last_comment : tokens_of (codes "a // b") ≡ token 0 (name (codes "a")) ∷ []
unfolding tokens_from piece_at reserved_word
last_comment = refl

-- a comment goes on over a carriage return, and ends at a line feed
pub carriage_return_in_comment : tokens_of (codes "//a" ++ 13 ∷ codes "b" ++ 10 ∷ codes "c")
    ≡ token 6 (name (codes "c")) ∷ []
unfolding tokens_from piece_at reserved_word
carriage_return_in_comment = refl

-- `-o` is a symbol before a blank and at the end, and no symbol before a letter, a digit or `_`
pub lollipop : tokens_of (codes "a-o b")
    ≡ token 0 (name (codes "a")) ∷ token 1 (symbol sym.Lollipop) ∷ token 4 (name (codes "b")) ∷ []
unfolding tokens_from piece_at reserved_word
lollipop = refl

pub last_lollipop : tokens_of (codes "-o") ≡ token 0 (symbol sym.Lollipop) ∷ []
unfolding tokens_from piece_at reserved_word
last_lollipop = refl

pub minus_and_name : tokens_of (codes "a -ox")
    ≡ token 0 (name (codes "a")) ∷ token 2 (symbol sym.Minus) ∷ token 3 (name (codes "ox")) ∷ []
unfolding tokens_from piece_at reserved_word
minus_and_name = refl

pub minus_and_digit : tokens_of (codes "-o1 -o_")
    ≡ token 0 (symbol sym.Minus) ∷ token 1 (name (codes "o1")) ∷ token 4 (symbol sym.Minus) ∷
    token 5 (name (codes "o_")) ∷ []
unfolding tokens_from piece_at reserved_word
minus_and_digit = refl

-- the longer symbols
pub double_symbols : tokens_of (codes "->=>::/\\")
    ≡ token 0 (symbol sym.Arrow) ∷ token 2 (symbol sym.FatArrow) ∷ token 4 (symbol sym.DoubleColon) ∷
    token 6 (symbol sym.Wedge) ∷ []
unfolding tokens_from piece_at
double_symbols = refl

-- a number ends where a letter stands
pub number_and_name : tokens_of (codes "1a") ≡ token 0 (number (codes "1")) ∷ token 1 (name (codes "a")) ∷ []
unfolding tokens_from piece_at reserved_word
number_and_name = refl

-- a form feed is no blank
pub form_feed : tokens_of (codes "1" ++ 12 ∷ codes "2")
    ≡ token 0 (number (codes "1")) ∷ token 1 (bad 12) ∷ token 2 (number (codes "2")) ∷ []
unfolding tokens_from piece_at
form_feed = refl

-- a reserved word may begin a name
pub reserved_and_longer : tokens_of (codes "self selfish")
    ≡ token 0 (reserved word.SelfWord) ∷ token 5 (name (codes "selfish")) ∷ []
unfolding tokens_from piece_at reserved_word
reserved_and_longer = refl
