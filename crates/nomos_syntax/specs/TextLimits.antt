-- The limits of a contract text.
use Rattle.std.specs.Prelude.{ℕ, ◌≤◌, length}
use Rattle.nomos_syntax.specs.Lexeme.{Lexeme, name, reserved, number, symbol, bad}

-- the most bytes of a name
abbrev pub name_limit : ℕ
name_limit = 64

-- the most productions, branches and operators that are open at a token
abbrev pub nesting_limit : ℕ
nesting_limit = 64

-- the most nodes of a text
abbrev pub node_limit : ℕ
node_limit = 10000

-- a name is no longer than the limit
abbrev pub IsShort : Lexeme → Type 0
IsShort (name text) = length text ≤ name_limit
IsShort (reserved w) = Unit {0}
IsShort (number digits) = Unit {0}
IsShort (symbol s) = Unit {0}
IsShort (bad b) = Unit {0}
