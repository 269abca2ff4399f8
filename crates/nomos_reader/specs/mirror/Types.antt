-- A mirror of the code: how types are read.
use Rattle.std.specs.Prelude.{ℕ, zero, suc, [], length, Option, Some, None}
use Rattle.nomos_ir.specs.declared.word.Word.TheVariants as word
use Rattle.nomos_surface.specs.declared.types.Sender.{Sender}
use Rattle.nomos_surface.specs.declared.types.Sender.TheVariants as sender
use Rattle.nomos_reader.specs.mirror.Front.{Reader, front_kind, front_at, rest_of, read_name, is_bar, read_parted, read_potential, read_value_type}
use Rattle.nomos_surface.specs.Tree.{TypeTree, one, named, choice, channel, valued, paying, going_up, going_down, grouped}
use Rattle.nomos_surface.specs.TypeView.{Branch, branch_trees}
use Rattle.nomos_syntax.specs.declared.symbol.Symbol.TheVariants as sym
use Rattle.nomos_syntax.specs.declared.token.TokenKind.{TokenKind}
use Rattle.nomos_syntax.specs.declared.token.TokenKind.TheVariants as kind

-- `1`
abbrev pub read_one : Reader TypeTree
read_one tokens = (one (front_at tokens), rest_of tokens)

-- `up` or `down`, and a type
unfoldable pub read_shift : (ℕ → TypeTree → TypeTree) → Reader TypeTree → Reader TypeTree
read_shift form inner tokens = let r = inner (rest_of tokens) in (form (front_at tokens) r.0, r.1)

unfoldable pub read_paying : Sender → Reader TypeTree → Reader TypeTree
read_paying s inner tokens =
    let q = read_potential (rest_of tokens) in
    let r = inner (rest_of q.1) in
    (paying s (front_at tokens) q.0 r.0, r.1)

abbrev pub value_sender : Option TokenKind → Sender
value_sender (Some (kind.Symbol sym.Wedge)) = sender.Provider
value_sender _ = sender.Client

unfoldable pub read_valued : Reader TypeTree → Reader TypeTree
read_valued inner tokens =
    let v = read_value_type tokens in
    let r = inner (rest_of v.1) in
    (valued (value_sender (front_kind v.1)) (front_at v.1) v.0 r.0, r.1)

-- a label, `:` and a type
unfoldable pub read_branch : Reader TypeTree → Reader Branch
read_branch inner tokens =
    let r = inner (rest_of (rest_of tokens)) in
    (((read_name tokens).0, r.0), r.1)

unfoldable pub read_choice : Sender → Reader TypeTree → Reader TypeTree
read_choice s inner tokens =
    let inside = rest_of (rest_of tokens) in
    let r = read_parted (read_branch inner) is_bar (length inside) [] inside in
    (choice s (front_at tokens) (branch_trees r.0), rest_of r.1)

unfoldable pub read_grouped : Reader TypeTree → Reader TypeTree
read_grouped inner tokens = let r = inner (rest_of tokens) in (grouped r.0, rest_of r.1)

-- an atom that begins with such a token
unfoldable pub atom_from : Reader TypeTree → Option TokenKind → Reader TypeTree
atom_from inner (Some (kind.Symbol sym.OpenParen)) tokens = read_grouped inner tokens
atom_from inner (Some (kind.Symbol sym.Plus)) tokens = read_choice sender.Provider inner tokens
atom_from inner (Some (kind.Symbol sym.Ampersand)) tokens = read_choice sender.Client inner tokens
atom_from inner (Some kind.Name) tokens = (named (read_name tokens).0, (read_name tokens).1)
atom_from inner _ tokens = read_one tokens

abbrev pub read_atom : Reader TypeTree → Reader TypeTree
read_atom inner tokens = atom_from inner (front_kind tokens) tokens

-- which side sends a channel, where such a token stands behind a type
abbrev pub channel_sender : Option TokenKind → Option Sender
channel_sender (Some (kind.Symbol sym.Star)) = Some sender.Provider
channel_sender (Some (kind.Symbol sym.Lollipop)) = Some sender.Client
channel_sender _ = None

-- a type that an atom begins, and what stands behind it
unfoldable pub carried_from : Reader TypeTree → TypeTree → Option Sender → Reader TypeTree
carried_from inner atom None tokens = (atom, tokens)
carried_from inner atom (Some s) tokens =
    let r = inner (rest_of tokens) in (channel s (front_at tokens) atom r.0, r.1)

unfoldable pub read_carrying : Reader TypeTree → Reader TypeTree
read_carrying inner tokens =
    let a = read_atom inner tokens in carried_from inner a.0 (channel_sender (front_kind a.1)) a.1

-- a type that begins with such a token
unfoldable pub type_from : Reader TypeTree → Option TokenKind → Reader TypeTree
type_from inner (Some (kind.Reserved word.Up)) tokens = read_shift going_up inner tokens
type_from inner (Some (kind.Reserved word.Down)) tokens = read_shift going_down inner tokens
type_from inner (Some (kind.Symbol sym.Bar)) tokens = read_paying sender.Provider inner tokens
type_from inner (Some (kind.Symbol sym.Less)) tokens = read_paying sender.Client inner tokens
type_from inner (Some (kind.Reserved word.Int)) tokens = read_valued inner tokens
type_from inner (Some (kind.Reserved word.Bool)) tokens = read_valued inner tokens
type_from inner (Some (kind.Reserved word.List)) tokens = read_valued inner tokens
type_from inner _ tokens = read_carrying inner tokens

abbrev pub type_of_tokens : Reader TypeTree → Reader TypeTree
type_of_tokens inner tokens = type_from inner (front_kind tokens) tokens

-- a type in which no more than so many are open
unfoldable pub read_type : ℕ → Reader TypeTree
read_type zero tokens = read_one tokens
read_type (suc room) tokens = type_of_tokens (read_type room) tokens
