-- Which tokens are well named.
use Rattle.nomos_ir.specs.Name.{IsName}
use Rattle.nomos_syntax.specs.Lexeme.{Lexeme, name, reserved, number, symbol, bad}

-- what stands as a name is one: a word that is not reserved
abbrev pub IsWellNamed : Lexeme → Type 0
IsWellNamed (name text) = IsName text
IsWellNamed (reserved w) = Unit {0}
IsWellNamed (number digits) = Unit {0}
IsWellNamed (symbol s) = Unit {0}
IsWellNamed (bad b) = Unit {0}
