-- The bytes of which tokens consist.
use Rattle.std.specs.Prelude.{ℕ, List, [], ◌∷◌, codes}
use Rattle.nomos_ir.specs.Word.{text_of}
use Rattle.nomos_syntax.specs.declared.symbol.Symbol.{Symbol}
use Rattle.nomos_syntax.specs.declared.symbol.Symbol.TheVariants as sym
use Rattle.nomos_syntax.specs.Lexeme.{Lexeme, name, reserved, number, symbol, bad}

-- the bytes of a symbol
abbrev pub symbol_text : Symbol → List ℕ
symbol_text sym.OpenParen = codes "("
symbol_text sym.CloseParen = codes ")"
symbol_text sym.OpenBrace = codes "{"
symbol_text sym.CloseBrace = codes "}"
symbol_text sym.Comma = codes ","
symbol_text sym.Semicolon = codes ";"
symbol_text sym.Colon = codes ":"
symbol_text sym.Dot = codes "."
symbol_text sym.Equals = codes "="
symbol_text sym.Plus = codes "+"
symbol_text sym.Minus = codes "-"
symbol_text sym.Star = codes "*"
symbol_text sym.Slash = codes "/"
symbol_text sym.Percent = codes "%"
symbol_text sym.Less = codes "<"
symbol_text sym.Greater = codes ">"
symbol_text sym.Bar = codes "|"
symbol_text sym.Ampersand = codes "&"
symbol_text sym.Arrow = codes "->"
symbol_text sym.FatArrow = codes "=>"
symbol_text sym.DoubleColon = codes "::"
symbol_text sym.Wedge = codes "/\\"
symbol_text sym.Lollipop = codes "-o"

-- the bytes of a token
abbrev pub spelling : Lexeme → List ℕ
spelling (name text) = text
spelling (reserved w) = text_of w
spelling (number digits) = digits
spelling (symbol s) = symbol_text s
spelling (bad byte) = byte ∷ []
