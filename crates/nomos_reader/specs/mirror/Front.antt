-- A mirror of the code: what it sees of the next token, and what it makes of lists.
use Rattle.std.specs.Prelude.{ℕ, zero, suc, Bool, true, false, List, [], ◌∷◌, ◌++◌, Option, Some, None, if◌then◌else◌}
use Rattle.std.specs.Str.Parse.{digits_value}
use Rattle.nomos_ir.specs.declared.word.Word.TheVariants as word
use Rattle.nomos_ir.specs.declared.kind.Base.{Base}
use Rattle.nomos_ir.specs.declared.kind.Base.TheVariants as base
use Rattle.nomos_surface.specs.declared.name_at.NameAt.{NameAt}
use Rattle.nomos_surface.specs.declared.potential.Potential.{Potential}
use Rattle.nomos_surface.specs.declared.potential.Quantity.{Quantity}
use Rattle.nomos_surface.specs.declared.potential.Quantity.TheVariants as quantity
use Rattle.nomos_surface.specs.declared.value_type.ValueType.{ValueType}
use Rattle.nomos_syntax.specs.declared.symbol.Symbol.TheVariants as sym
use Rattle.nomos_syntax.specs.declared.token.TokenKind.{TokenKind}
use Rattle.nomos_syntax.specs.declared.token.TokenKind.TheVariants as kind
use Rattle.nomos_syntax.specs.Lexeme.{Lexeme, name, reserved, number, symbol, bad, Placed}
use Rattle.nomos_syntax.specs.Spelling.{spelling}

-- what is read of the front of tokens, and the tokens behind it
abbrev pub Reader : Type 0 → Type 0
Reader A = List Placed → A × List Placed

abbrev pub kind_of : Lexeme → TokenKind
kind_of (name text) = kind.Name
kind_of (reserved w) = kind.Reserved w
kind_of (number digits) = kind.Number
kind_of (symbol s) = kind.Symbol s
kind_of (bad byte) = kind.Bad

-- the kind, the offset and the text of the next token, and the tokens behind it
abbrev pub front_kind : List Placed → Option TokenKind
front_kind [] = None
front_kind (x ∷ rest) = Some (kind_of x.lexeme)

abbrev pub front_at : List Placed → ℕ
front_at [] = 0
front_at (x ∷ rest) = x.at

abbrev pub front_text : List Placed → List ℕ
front_text [] = []
front_text (x ∷ rest) = spelling x.lexeme

abbrev pub rest_of : List Placed → List Placed
rest_of [] = []
rest_of (x ∷ rest) = rest

-- whether no token is left
abbrev pub none_left : List Placed → Bool
none_left [] = true
none_left (x ∷ rest) = false

-- the value of the next token, where it is a number
abbrev pub number_of : Lexeme → ℕ
number_of (number digits) = digits_value 10 digits
number_of _ = 0

abbrev pub front_number : List Placed → ℕ
front_number [] = 0
front_number (x ∷ rest) = number_of x.lexeme

abbrev pub read_name : Reader NameAt
read_name tokens = (record { name = front_text tokens; at = front_at tokens }, rest_of tokens)

-- whether the next token is this
abbrev pub is_comma : Option TokenKind → Bool
is_comma (Some (kind.Symbol sym.Comma)) = true
is_comma _ = false

abbrev pub is_bar : Option TokenKind → Bool
is_bar (Some (kind.Symbol sym.Bar)) = true
is_bar _ = false

abbrev pub is_list : Option TokenKind → Bool
is_list (Some (kind.Reserved word.List)) = true
is_list _ = false

abbrev pub is_open_brace : Option TokenKind → Bool
is_open_brace (Some (kind.Symbol sym.OpenBrace)) = true
is_open_brace _ = false

abbrev pub is_open_paren : Option TokenKind → Bool
is_open_paren (Some (kind.Symbol sym.OpenParen)) = true
is_open_paren _ = false

-- whether a list ends here: its `)` or `;` is next
abbrev pub is_list_end : Option TokenKind → Bool
is_list_end (Some (kind.Symbol sym.CloseParen)) = true
is_list_end (Some (kind.Symbol sym.Semicolon)) = true
is_list_end _ = false

-- Items behind those that were read, with such a token between them, at most n of them.
unfoldable pub read_parted : {A : Type 0} → Reader A → (Option TokenKind → Bool) → ℕ → List A → Reader (List A)
read_parted item between zero items tokens = (items, tokens)
read_parted item between (suc n) items tokens =
    let r = item tokens in
    if between (front_kind r.1) then read_parted item between n (items ++ r.0 ∷ []) (rest_of r.1) else
    (items ++ r.0 ∷ [], r.1)

-- items with a `,` between them, which may be none, up to the end of their list
unfoldable pub read_until : {A : Type 0} → Reader A → ℕ → Reader (List A)
read_until item n tokens =
    if is_list_end (front_kind tokens) then ([], tokens) else read_parted item is_comma n [] tokens

-- potentials

abbrev pub quantity_from : Option TokenKind → ℕ → Quantity
quantity_from (Some kind.Number) value = quantity.Number value
quantity_from _ value = quantity.Star

abbrev pub front_quantity : List Placed → Quantity
front_quantity tokens = quantity_from (front_kind tokens) (front_number tokens)

abbrev pub read_potential : Reader Potential
read_potential tokens =
    let inside = rest_of tokens in (
      record { at = front_at tokens; quantity = front_quantity inside; quantity_at = front_at inside },
      rest_of (rest_of inside),
    )

abbrev pub read_optional : Reader (Option Potential)
read_optional tokens =
    if is_open_brace (front_kind tokens) then (Some (read_potential tokens).0, (read_potential tokens).1) else
    (None, tokens)

-- the types of values

abbrev pub base_from : Option TokenKind → Base
base_from (Some (kind.Reserved word.Bool)) = base.Bool
base_from _ = base.Int

-- the words `list` at the front, behind those that were read
unfoldable pub read_lists : List ℕ → Reader (List ℕ)
read_lists lists [] = (lists, [])
read_lists lists (x ∷ rest) =
    if is_list (front_kind (x ∷ rest)) then read_lists (lists ++ x.at ∷ []) rest else (lists, x ∷ rest)

abbrev pub read_value_type : Reader ValueType
read_value_type tokens =
    let lists = read_lists [] tokens in
    (record { lists = lists.0; base = base_from (front_kind lists.1); base_at = front_at lists.1 }, rest_of lists.1)
