-- Tokens that fit what the grammar asks for are what has to be shown of them.
use Rattle.std.proofs.Common.{◌≡◌, ◌⊎◌, cond, ℕ, Bool, true, false, List, Some, refl, ap, inl, inr}
use Rattle.std.specs.Prelude.{codes}
use Rattle.std.specs.Str.{bytes_eq}
use Rattle.std.specs.Str.Parse.{digits_value}
use Rattle.std.proofs.lemmas.Slice.Eq.{bytes_eq-Decides}
use Rattle.nomos_grammar.specs.declared.part.Terminal.TheVariants as terminal
use Rattle.nomos_grammar.specs.Producing.{Fits, terminal_of}
use Rattle.nomos_ir.specs.declared.word.Word.{Word}
use Rattle.nomos_surface.specs.declared.name_at.NameAt.{NameAt}
use Rattle.nomos_surface.specs.Printed.{at_offset, number_at, HasValue, Meets, sign, sign_at, keyword, keyword_at, print_name}
use Rattle.nomos_syntax.specs.declared.symbol.Symbol.{Symbol}
use Rattle.nomos_syntax.specs.Lexeme.{Lexeme, name, reserved, number, symbol, bad, Placed}

-- a number is `1` or another number
number_terminal : (digits : List ℕ) → (terminal_of (number digits) ≡ Some terminal.One)
    ⊎ (terminal_of (number digits) ≡ Some terminal.Number)
number_terminal digits =
    elim (bytes_eq digits (codes "1")) as
    (λ b. (cond b (Some terminal.One) (Some terminal.Number) ≡ Some terminal.One)
    ⊎ (cond b (Some terminal.One) (Some terminal.Number) ≡ Some terminal.Number))
    [ true ↦ inl refl | false ↦ inr refl ]

symbol_fitting : (s : Symbol) (lexeme : Lexeme) → Fits (terminal.Symbol s) lexeme → lexeme ≡ symbol s
symbol_fitting s (name text) (inl e) = cc
symbol_fitting s (name text) (inr p) = cc
symbol_fitting s (reserved w) (inl e) = cc
symbol_fitting s (reserved w) (inr p) = cc
symbol_fitting s (number digits) (inl e) = elim (number_terminal digits) [ inl k ↦ cc | inr k ↦ cc ]
symbol_fitting s (number digits) (inr p) = cc
symbol_fitting s (symbol r) (inl e) = cc
symbol_fitting s (symbol r) (inr p) = cc
symbol_fitting s (bad byte) (inl e) = cc
symbol_fitting s (bad byte) (inr p) = cc

word_fitting : (w : Word) (lexeme : Lexeme) → Fits (terminal.Reserved w) lexeme → lexeme ≡ reserved w
word_fitting w (name text) (inl e) = cc
word_fitting w (name text) (inr p) = cc
word_fitting w (reserved v) (inl e) = cc
word_fitting w (reserved v) (inr p) = cc
word_fitting w (number digits) (inl e) = elim (number_terminal digits) [ inl k ↦ cc | inr k ↦ cc ]
word_fitting w (number digits) (inr p) = cc
word_fitting w (symbol r) (inl e) = cc
word_fitting w (symbol r) (inr p) = cc
word_fitting w (bad byte) (inl e) = cc
word_fitting w (bad byte) (inr p) = cc

pub name_fitting : (lexeme : Lexeme) → Fits terminal.Name lexeme → (text : List ℕ) × (lexeme ≡ name text)
name_fitting (name text) f = (text, refl)
name_fitting (reserved v) (inl e) = absurd (cc)
name_fitting (reserved v) (inr p) = absurd (cc)
name_fitting (number digits) (inl e) = absurd (elim (number_terminal digits) [ inl k ↦ cc | inr k ↦ cc ])
name_fitting (number digits) (inr p) = absurd (cc)
name_fitting (symbol r) (inl e) = absurd (cc)
name_fitting (symbol r) (inr p) = absurd (cc)
name_fitting (bad byte) (inl e) = absurd (cc)
name_fitting (bad byte) (inr p) = absurd (cc)

pub number_fitting : (lexeme : Lexeme) → Fits terminal.Number lexeme → (value : ℕ) × HasValue value lexeme
number_fitting (name text) (inl e) = absurd (cc)
number_fitting (name text) (inr p) = absurd (cc)
number_fitting (reserved v) (inl e) = absurd (cc)
number_fitting (reserved v) (inr p) = absurd (cc)
number_fitting (number digits) f = (digits_value 10 digits, refl)
number_fitting (symbol r) (inl e) = absurd (cc)
number_fitting (symbol r) (inr p) = absurd (cc)
number_fitting (bad byte) (inl e) = absurd (cc)
number_fitting (bad byte) (inr p) = absurd (cc)

chosen_true : (b : Bool) → cond b (Some terminal.One) (Some terminal.Number) ≡ Some terminal.One → b ≡ true
chosen_true true e = refl
chosen_true false e = cc

one_fitting : (lexeme : Lexeme) → Fits terminal.One lexeme → lexeme ≡ number (codes "1")
one_fitting (name text) (inl e) = cc
one_fitting (name text) (inr p) = cc
one_fitting (reserved v) (inl e) = cc
one_fitting (reserved v) (inr p) = cc
one_fitting (number digits) (inl e) =
    ap number ((bytes_eq-Decides digits (codes "1")).0 (chosen_true (bytes_eq digits (codes "1")) e))
one_fitting (number digits) (inr p) = cc
one_fitting (symbol r) (inl e) = cc
one_fitting (symbol r) (inr p) = cc
one_fitting (bad byte) (inl e) = cc
one_fitting (bad byte) (inr p) = cc

-- the token, with what it says in other words
placed_as : (x : Placed) (lexeme : Lexeme) → x.lexeme ≡ lexeme → x ≡ record { at = x.at; lexeme = lexeme }
placed_as x lexeme e = ap (λ l. let y : Placed = record { at = x.at; lexeme = l } in y) e

pub meets_sign : (s : Symbol) (x : Placed) → Fits (terminal.Symbol s) x.lexeme → Meets (sign s) x
meets_sign s x f = symbol_fitting s x.lexeme f

pub meets_sign_at : (s : Symbol) (x : Placed) → Fits (terminal.Symbol s) x.lexeme → Meets (sign_at x.at s) x
meets_sign_at s x f = placed_as x (symbol s) (symbol_fitting s x.lexeme f)

pub meets_keyword : (w : Word) (x : Placed) → Fits (terminal.Reserved w) x.lexeme → Meets (keyword w) x
meets_keyword w x f = word_fitting w x.lexeme f

pub meets_keyword_at : (w : Word) (x : Placed) → Fits (terminal.Reserved w) x.lexeme → Meets (keyword_at x.at w) x
meets_keyword_at w x f = placed_as x (reserved w) (word_fitting w x.lexeme f)

-- the name that a token is
abbrev pub name_of : (x : Placed) → Fits terminal.Name x.lexeme → NameAt
name_of x f = record { name = (name_fitting x.lexeme f).0; at = x.at }

pub meets_name : (x : Placed) (f : Fits terminal.Name x.lexeme) → Meets (print_name (name_of x f)) x
meets_name x f = placed_as x (name (name_fitting x.lexeme f).0) (name_fitting x.lexeme f).1

pub meets_one : (x : Placed) → Fits terminal.One x.lexeme → Meets (at_offset x.at (number (codes "1"))) x
meets_one x f = placed_as x (number (codes "1")) (one_fitting x.lexeme f)

-- the value of a token that is a number
abbrev pub value_of : (x : Placed) → Fits terminal.Number x.lexeme → ℕ
value_of x f = (number_fitting x.lexeme f).0

pub meets_number : (x : Placed) (f : Fits terminal.Number x.lexeme) → Meets (number_at x.at (value_of x f)) x
meets_number x f = (refl, (number_fitting x.lexeme f).1)
