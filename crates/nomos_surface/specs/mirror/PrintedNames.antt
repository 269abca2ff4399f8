-- A mirror for proofs: what is printed, with names that are short names and numbers that are within their limit.
use Rattle.std.specs.Prelude.{◌≤◌, List, [], ◌∷◌}
use Rattle.nomos_grammar.specs.Offence.{number_limit}
use Rattle.nomos_ir.specs.Name.{IsShortName}
use Rattle.nomos_surface.specs.Printed.{Shown, anywhere, at_offset, number_at, Printer}
use Rattle.nomos_syntax.specs.Lexeme.{Lexeme, name, reserved, number, symbol, bad}

-- a name is a short name
abbrev pub IsKeptLexeme : Lexeme → Type 0
IsKeptLexeme (name text) = IsShortName text
IsKeptLexeme (reserved w) = Unit {0}
IsKeptLexeme (number digits) = Unit {0}
IsKeptLexeme (symbol s) = Unit {0}
IsKeptLexeme (bad byte) = Unit {0}

-- names are printed at their offsets
abbrev pub IsKept : Shown → Type 0
IsKept (anywhere lexeme) = Unit {0}
IsKept (at_offset at lexeme) = IsKeptLexeme lexeme
IsKept (number_at at value) = value ≤ number_limit

-- each of these is kept
pub data AllKept : List Shown → Type 0 where
  none_kept : AllKept []
  more_kept : {s : Shown} {shown : List Shown} → IsKept s → AllKept shown → AllKept (s ∷ shown)

-- where all is kept that is printed, this holds of it, and all that follows is kept
abbrev pub Tells : Type 0 → Printer → Type 0
Tells P printer = (after : List Shown) → AllKept (printer after) → P × AllKept after
