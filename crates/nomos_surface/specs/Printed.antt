-- What is printed: what each token has to be, in order of text.
use Rattle.std.specs.Prelude.{◌≡◌, ℕ, List, [], ◌∷◌}
use Rattle.std.specs.Str.Parse.{digits_value}
use Rattle.nomos_ir.specs.declared.word.Word.{Word}
use Rattle.nomos_surface.specs.declared.name_at.NameAt.{NameAt}
use Rattle.nomos_syntax.specs.declared.symbol.Symbol.{Symbol}
use Rattle.nomos_syntax.specs.Lexeme.{Lexeme, name, reserved, number, symbol, bad, Placed}

-- What one token has to be, and where it stands if the tree keeps that. A number is known by its value.
pub data Shown : Type 0 where
  anywhere : (lexeme : Lexeme) → Shown
  at_offset : (at : ℕ) → (lexeme : Lexeme) → Shown
  number_at : (at : ℕ) → (value : ℕ) → Shown

-- the token is a number with this value
abbrev pub HasValue : ℕ → Lexeme → Type 0
HasValue value (name text) = ⊥
HasValue value (reserved w) = ⊥
HasValue value (number digits) = digits_value 10 digits ≡ value
HasValue value (symbol s) = ⊥
HasValue value (bad byte) = ⊥

-- the token is what it has to be
abbrev pub Meets : Shown → Placed → Type 0
Meets (anywhere lexeme) token = token.lexeme ≡ lexeme
Meets (at_offset at lexeme) token = token ≡ record { at = at; lexeme = lexeme }
Meets (number_at at value) token = (token.at ≡ at) × HasValue value token.lexeme

-- the tokens are what they have to be, one for one
abbrev pub Spells : List Shown → List Placed → Type 0
Spells [] [] = Unit {0}
Spells [] (t ∷ tokens) = ⊥
Spells (s ∷ shown) [] = ⊥
Spells (s ∷ shown) (t ∷ tokens) = Meets s t × Spells shown tokens

-- how something is printed before what follows it
abbrev pub Printer : Type 0
Printer = List Shown → List Shown

-- a symbol and a reserved word, anywhere and at an offset, and a name
abbrev pub sign : Symbol → Shown
sign s = anywhere (symbol s)

-- A symbol that stands at a known offset of the text.
abbrev pub sign_at : ℕ → Symbol → Shown
sign_at at s = at_offset at (symbol s)

-- A reserved word, wherever it stands.
abbrev pub keyword : Word → Shown
keyword w = anywhere (reserved w)

-- A reserved word that stands at a known offset of the text.
abbrev pub keyword_at : ℕ → Word → Shown
keyword_at at w = at_offset at (reserved w)

-- A name, at the offset that the tree holds for it.
abbrev pub print_name : NameAt → Shown
print_name n = at_offset n.at (name n.name)

-- each of these behind the symbol
abbrev pub print_more : Symbol → List Printer → Printer
print_more s [] after = after
print_more s (p ∷ more) after = sign s ∷ p (print_more s more after)

-- these with the symbol between them
abbrev pub print_parted : Symbol → List Printer → Printer
print_parted s [] after = after
print_parted s (p ∷ more) after = p (print_more s more after)
