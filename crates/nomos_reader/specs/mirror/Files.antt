-- A mirror of the code: how declarations and files are read.
use Rattle.std.specs.Prelude.{ℕ, zero, suc, Bool, true, false, List, [], ◌∷◌, ◌++◌, length, Option, Some, None, if◌then◌else◌}
use Rattle.nomos_ir.specs.declared.word.Word.TheVariants as word
use Rattle.nomos_surface.specs.declared.declarations.ListPotential.{ListPotential}
use Rattle.nomos_surface.specs.declared.declarations.OfferedMode.{OfferedMode}
use Rattle.nomos_surface.specs.declared.declarations.OfferedMode.TheVariants as mode
use Rattle.nomos_surface.specs.declared.declarations.ProcessPar.{ProcessPar}
use Rattle.nomos_surface.specs.declared.declarations.ValuePar.{ValuePar}
use Rattle.nomos_surface.specs.declared.surface.CostLine.{CostLine}
use Rattle.nomos_surface.specs.declared.surface.CostModel.{CostModel}
use Rattle.nomos_surface.specs.declared.surface.CostModel.TheVariants as cost
use Rattle.nomos_reader.specs.mirror.Codes.{read_code, whole_term}
use Rattle.nomos_reader.specs.mirror.Front.{Reader, front_at, front_kind, is_list, is_open_brace, read_name, read_optional, read_potential, read_until, read_value_type, rest_of}
use Rattle.nomos_reader.specs.mirror.Types.{read_type}
use Rattle.nomos_surface.specs.Tree.{TypeTree, CodeTree, ChanParTree, ParTrees, DeclTree, definition, function, process, transaction, FileTree}
use Rattle.nomos_syntax.specs.declared.token.TokenKind.{TokenKind}
use Rattle.nomos_syntax.specs.declared.token.TokenKind.TheVariants as kind
use Rattle.nomos_syntax.specs.Lexeme.{Placed}

-- a type, and a code, with as much room as there are tokens
abbrev pub whole_type : Reader TypeTree
whole_type tokens = read_type (length tokens) tokens

abbrev pub whole_code : Reader CodeTree
whole_code tokens = read_code (length tokens) tokens

unfoldable pub read_value_par : Reader ValuePar
read_value_par tokens =
    let t = read_value_type (rest_of (rest_of tokens)) in
    (record { name = (read_name tokens).0; value = t.0 }, t.1)

-- `list {q}` of a list parameter, where a `{` stands behind the word
abbrev pub list_potential_from : Bool → Reader (Option ListPotential)
list_potential_from true tokens =
    let q = read_potential (rest_of tokens) in (Some (record { list_at = front_at tokens; potential = q.0 }), q.1)
list_potential_from false tokens = (None, tokens)

-- whether the potential of a list parameter begins here
abbrev pub begins_list : List Placed → Bool
begins_list tokens = if is_list (front_kind tokens) then is_open_brace (front_kind (rest_of tokens)) else false

unfoldable pub read_par : Reader ProcessPar
read_par tokens =
    let inside = rest_of (rest_of tokens) in
    let l = list_potential_from (begins_list inside) inside in
    let t = read_value_type l.1 in
    (record { name = (read_name tokens).0; «list» = l.0; value = t.0 }, t.1)

unfoldable pub read_chan_par : Reader ChanParTree
read_chan_par tokens =
    let t = whole_type (rest_of (rest_of tokens)) in
    (record { name = (read_name tokens).0; goes = t.0 }, t.1)

abbrev pub read_value_pars : Reader (List ValuePar)
read_value_pars tokens = read_until read_value_par (length tokens) tokens

abbrev pub read_pars : Reader (List ProcessPar)
read_pars tokens = read_until read_par (length tokens) tokens

abbrev pub read_chan_pars : Reader (List ChanParTree)
read_chan_pars tokens = read_until read_chan_par (length tokens) tokens

-- `(`, parameters, `;`, channel parameters and `)`
unfoldable pub read_all_pars : Reader ParTrees
read_all_pars tokens =
    let values = read_pars (rest_of tokens) in
    let channels = read_chan_pars (rest_of values.1) in
    (record { values = values.0; channels = channels.0 }, rest_of channels.1)

abbrev pub mode_from : Option TokenKind → OfferedMode
mode_from (Some (kind.Reserved word.S)) = mode.S
mode_from (Some (kind.Reserved word.L)) = mode.L
mode_from _ = mode.R

-- `=`, a code and `;`
unfoldable pub read_body : Reader CodeTree
read_body tokens = let c = whole_code (rest_of tokens) in (c.0, rest_of c.1)

unfoldable pub read_definition : Reader DeclTree
read_definition tokens =
    let head = rest_of tokens in
    let n = read_name (rest_of head) in
    let body = whole_type (rest_of n.1) in
    (definition (front_at tokens) (mode_from (front_kind head)) n.0 body.0, rest_of body.1)

unfoldable pub read_function : Reader DeclTree
read_function tokens =
    let n = read_name (rest_of tokens) in
    let pars = read_value_pars (rest_of n.1) in
    let gives = read_value_type (rest_of (rest_of pars.1)) in
    let body = whole_term (rest_of gives.1) in
    (function (front_at tokens) n.0 pars.0 gives.0 body.0, rest_of body.1)

-- what stands behind `proc T`, of a declaration at an offset
unfoldable pub read_transaction : ℕ → Reader DeclTree
read_transaction at tokens =
    let n = read_name tokens in
    let pars = read_all_pars n.1 in
    let q = read_optional pars.1 in
    let body = read_body q.1 in
    (transaction at n.0 pars.0 q.0 body.0, body.1)

-- what stands behind `proc` and a mode, of a declaration at an offset
unfoldable pub read_process : ℕ → OfferedMode → Reader DeclTree
read_process at m tokens =
    let n = read_name tokens in
    let pars = read_all_pars n.1 in
    let q = read_optional pars.1 in
    let offers = whole_type (rest_of q.1) in
    let body = read_body offers.1 in
    (process at m n.0 pars.0 q.0 offers.0 body.0, body.1)

-- what stands behind `proc`, where such a token is next
unfoldable pub proc_from : ℕ → Option TokenKind → Reader DeclTree
proc_from at (Some (kind.Reserved word.T)) tokens = read_transaction at (rest_of tokens)
proc_from at k tokens = read_process at (mode_from k) (rest_of tokens)

-- a declaration that begins with such a token
unfoldable pub decl_from : Option TokenKind → Reader DeclTree
decl_from (Some (kind.Reserved word.«Type»)) tokens = read_definition tokens
decl_from (Some (kind.Reserved word.Fn)) tokens = read_function tokens
decl_from _ tokens = proc_from (front_at tokens) (front_kind (rest_of tokens)) (rest_of tokens)

abbrev pub read_decl : Reader DeclTree
read_decl tokens = decl_from (front_kind tokens) tokens

-- declarations behind those that were read, at most n of them, as long as tokens are left
unfoldable pub read_decls : ℕ → List DeclTree → List Placed → List DeclTree
read_decls zero decls tokens = decls
read_decls (suc n) decls [] = decls
read_decls (suc n) decls (x ∷ rest) = read_decls n (decls ++ (read_decl (x ∷ rest)).0 ∷ []) (read_decl (x ∷ rest)).1

abbrev pub model_from : Option TokenKind → CostModel
model_from (Some (kind.Reserved word.Sends)) = cost.Sends
model_from (Some (kind.Reserved word.All)) = cost.All
model_from _ = cost.Ticks

abbrev pub is_cost : Option TokenKind → Bool
is_cost (Some (kind.Reserved word.Cost)) = true
is_cost _ = false

-- the line of the cost model, where it stands
abbrev pub cost_from : Bool → Reader (Option CostLine)
cost_from true tokens =
    let model = rest_of tokens in
    (Some (record { at = front_at tokens; model = model_from (front_kind model) }), rest_of (rest_of model))
cost_from false tokens = (None, tokens)

unfoldable pub read_file : List Placed → FileTree
read_file tokens =
    let c = cost_from (is_cost (front_kind tokens)) tokens in
    record { cost = c.0; decls = read_decls (length c.1) [] c.1 }
