-- What the grammar produces: tokens, with marks between them that say what counts where.
use Rattle.std.specs.Prelude.{◌≡◌, List, [], ◌∷◌, ◌++◌, Option, Some, None, ◌⊎◌, codes, if◌then◌else◌}
use Rattle.std.specs.Str.{bytes_eq}
use Rattle.nomos_syntax.specs.Lexeme.{Lexeme, name, reserved, number, symbol, bad, Placed}
use Rattle.nomos_grammar.specs.declared.part.Terminal.{Terminal}
use Rattle.nomos_grammar.specs.declared.part.Terminal.TheVariants as terminal
use Rattle.nomos_grammar.specs.declared.part.Nonterminal.{Nonterminal}
use Rattle.nomos_grammar.specs.declared.part.Nonterminal.TheVariants as production
use Rattle.nomos_grammar.specs.declared.part.Mark.{Mark}
use Rattle.nomos_grammar.specs.declared.part.Part.{Part}
use Rattle.nomos_grammar.specs.declared.part.Part.TheVariants as part
use Rattle.nomos_grammar.specs.Grammar.{alternatives, the}

-- what the grammar sees of a token; a bad byte is nothing to it
abbrev pub terminal_of : Lexeme → Option Terminal
terminal_of (name text) = Some terminal.Name
terminal_of (reserved w) = Some (terminal.Reserved w)
terminal_of (number digits) = if bytes_eq digits (codes "1") then Some terminal.One else Some terminal.Number
terminal_of (symbol s) = Some (terminal.Symbol s)
terminal_of (bad byte) = None

-- the token is what is asked for; `1` is a number too
abbrev pub Fits : Terminal → Lexeme → Type 0
Fits t lexeme = (terminal_of lexeme ≡ Some t) ⊎ ((t ≡ terminal.Number) × (terminal_of lexeme ≡ Some terminal.One))

-- a token, or what is counted between tokens
pub data Event : Type 0 where
  token : (x : Placed) → Event
  mark : (m : Mark) → Event

-- the tokens among the events
abbrev pub tokens_in : List Event → List Placed
tokens_in [] = []
tokens_in (token x ∷ events) = x ∷ tokens_in events
tokens_in (mark m ∷ events) = tokens_in events

-- it is one of these
pub data IsAmong {A : Type 0} (x : A) : List A → Type 0 where
  first : {xs : List A} → IsAmong x (x ∷ xs)
  later : {y : A} {xs : List A} → IsAmong x xs → IsAmong x (y ∷ xs)

-- The parts produce the events: a terminal a token that fits it, a mark itself, and a production what one of its
-- alternatives produces in its place.
pub data Produces : List Part → List Event → Type 0 where
  nothing : Produces [] []
  read : {t : Terminal} {x : Placed} {rest : List Part} {events : List Event} →
      Fits t x.lexeme → Produces rest events → Produces (part.Terminal t ∷ rest) (token x ∷ events)
  counted : {m : Mark} {rest : List Part} {events : List Event} →
      Produces rest events → Produces (part.Mark m ∷ rest) (mark m ∷ events)
  replaced : {n : Nonterminal} {rest : List Part} {events : List Event} (side : List Part) →
      IsAmong side (alternatives n) → Produces (side ++ rest) events → Produces (part.Nonterminal n ∷ rest) events

-- a whole file
abbrev pub file : List Part
file = the production.File ∷ []

-- the tokens are a file of the grammar
abbrev pub IsFile : List Placed → Type 0
IsFile tokens = (events : List Event) × Produces file events × (tokens_in events ≡ tokens)
