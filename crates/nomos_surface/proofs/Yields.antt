-- What parts yield: what is printed where they stand, whatever marks are between.
use Rattle.std.proofs.Common.{◌≡◌, ◌⊎◌, cond, ℕ, true, false, List, [], ◌∷◌, ◌++◌, Some, refl, ap, inl, inr}
use Rattle.std.specs.Str.{bytes_eq}
use Rattle.std.specs.Prelude.{codes}
use Rattle.nomos_grammar.specs.declared.part.Mark.{Mark}
use Rattle.nomos_grammar.specs.declared.part.Nonterminal.{Nonterminal}
use Rattle.nomos_grammar.specs.declared.part.Part.{Part}
use Rattle.nomos_grammar.specs.declared.part.Part.TheVariants as part
use Rattle.nomos_grammar.specs.declared.part.Terminal.{Terminal}
use Rattle.nomos_grammar.specs.declared.part.Terminal.TheVariants as terminal
use Rattle.nomos_grammar.specs.Producing.{Fits, terminal_of, Event, token, mark, tokens_in, IsAmong, Produces, nothing, read, counted, replaced}
use Rattle.nomos_grammar.specs.Grammar.{alternatives}
use Rattle.nomos_ir.specs.declared.word.Word.{Word}
use Rattle.nomos_surface.specs.declared.name_at.NameAt.{NameAt}
use Rattle.nomos_surface.specs.Printed.{Shown, at_offset, number_at, HasValue, Meets, Spells, sign, sign_at, keyword, keyword_at, print_name}
use Rattle.nomos_syntax.specs.declared.symbol.Symbol.{Symbol}
use Rattle.nomos_syntax.specs.Lexeme.{Lexeme, name, reserved, number, symbol, bad, Placed}

-- every token that is what is shown is what the grammar asks for
abbrev pub Suits : Terminal → Shown → Type 0
Suits t s = (x : Placed) → Meets s x → Fits t x.lexeme

pub data Yields : List Part → List Shown → Type 0 where
  ends : Yields [] []
  shows : {t : Terminal} {s : Shown} {rest : List Part} {after : List Shown} →
      Suits t s → Yields rest after → Yields (part.Terminal t ∷ rest) (s ∷ after)
  passes : {m : Mark} {rest : List Part} {after : List Shown} → Yields rest after → Yields (part.Mark m ∷ rest) after
  chooses : {n : Nonterminal} {rest : List Part} {after : List Shown} (side : List Part) →
      IsAmong side (alternatives n) → Yields (side ++ rest) after → Yields (part.Nonterminal n ∷ rest) after

-- what parts yield they derive, whichever tokens spell it
unfoldable pub yields-derives : {parts : List Part} {after : List Shown} → Yields parts after → (tokens : List Placed)
    → Spells after tokens →
    (events : List Event) × Produces parts events × (tokens_in events ≡ tokens)
yields-derives ends [] h = ([], nothing, refl)
yields-derives ends (x ∷ tokens) h = absurd h
yields-derives (shows suits y) [] h = absurd h
yields-derives (shows suits y) (x ∷ tokens) h =
    let d = yields-derives y tokens h.1 in
    (token x ∷ d.0, read (suits x h.0) d.1, ap (λ ts. x ∷ ts) d.2)
yields-derives (passes {m} y) tokens h =
    let d = yields-derives y tokens h in
    (mark m ∷ d.0, counted d.1, d.2)
yields-derives (chooses side among y) tokens h =
    let d = yields-derives y tokens h in
    (d.0, replaced side among d.1, d.2)

-- what suits what

pub suits_sign : (s : Symbol) → Suits (terminal.Symbol s) (sign s)
suits_sign s x m = inl (ap terminal_of m)

pub suits_sign_at : (at : ℕ) (s : Symbol) → Suits (terminal.Symbol s) (sign_at at s)
suits_sign_at at s x m = inl (ap (λ (y : Placed). terminal_of y.lexeme) m)

pub suits_keyword : (w : Word) → Suits (terminal.Reserved w) (keyword w)
suits_keyword w x m = inl (ap terminal_of m)

pub suits_keyword_at : (at : ℕ) (w : Word) → Suits (terminal.Reserved w) (keyword_at at w)
suits_keyword_at at w x m = inl (ap (λ (y : Placed). terminal_of y.lexeme) m)

pub suits_name : (n : NameAt) → Suits terminal.Name (print_name n)
suits_name n x m = inl (ap (λ (y : Placed). terminal_of y.lexeme) m)

pub suits_one : (at : ℕ) → Suits terminal.One (at_offset at (number (codes "1")))
suits_one at x m = inl (ap (λ (y : Placed). terminal_of y.lexeme) m)

fits_number : (value : ℕ) (lexeme : Lexeme) → HasValue value lexeme → Fits terminal.Number lexeme
fits_number value (name text) h = absurd h
fits_number value (reserved w) h = absurd h
fits_number value (number digits) h =
    elim (bytes_eq digits (codes "1")) as
    (λ b. (cond b (Some terminal.One) (Some terminal.Number) ≡ Some terminal.Number)
    ⊎ ((terminal.Number ≡ terminal.Number)
    × (cond b (Some terminal.One) (Some terminal.Number) ≡ Some terminal.One)))
    [ true ↦ inr (refl, refl) | false ↦ inl refl ]
fits_number value (symbol s) h = absurd h
fits_number value (bad byte) h = absurd h

pub suits_number : (at value : ℕ) → Suits terminal.Number (number_at at value)
suits_number at value x m = fits_number value x.lexeme m.1
