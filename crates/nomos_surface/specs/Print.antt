-- How trees are printed, by the nonterminals of the grammar.
use Rattle.std.specs.Prelude.{ℕ, Bool, true, false, List, [], ◌∷◌, Option, Some, None, map, codes}
use Rattle.nomos_ir.specs.declared.kind.Base.{Base}
use Rattle.nomos_ir.specs.declared.kind.Base.TheVariants as base
use Rattle.nomos_ir.specs.declared.word.Word.{Word}
use Rattle.nomos_ir.specs.declared.word.Word.TheVariants as word
use Rattle.nomos_surface.specs.declared.declarations.OfferedMode.{OfferedMode}
use Rattle.nomos_surface.specs.declared.declarations.OfferedMode.TheVariants as mode
use Rattle.nomos_surface.specs.declared.declarations.ListPotential.{ListPotential}
use Rattle.nomos_surface.specs.declared.declarations.ProcessPar.{ProcessPar}
use Rattle.nomos_surface.specs.declared.declarations.ValuePar.{ValuePar}
use Rattle.nomos_surface.specs.declared.name_at.NameAt.{NameAt}
use Rattle.nomos_surface.specs.declared.potential.Potential.{Potential}
use Rattle.nomos_surface.specs.declared.potential.Quantity.{Quantity}
use Rattle.nomos_surface.specs.declared.potential.Quantity.TheVariants as quantity
use Rattle.nomos_surface.specs.declared.steps.ChanAt.{ChanAt}
use Rattle.nomos_surface.specs.declared.steps.ChanAt.TheVariants as chan
use Rattle.nomos_surface.specs.declared.surface.CostLine.{CostLine}
use Rattle.nomos_surface.specs.declared.surface.CostModel.{CostModel}
use Rattle.nomos_surface.specs.declared.surface.CostModel.TheVariants as cost
use Rattle.nomos_surface.specs.declared.terms.Operator.{Operator}
use Rattle.nomos_surface.specs.declared.terms.Operator.TheVariants as operator
use Rattle.nomos_surface.specs.declared.types.Sender.{Sender}
use Rattle.nomos_surface.specs.declared.types.Sender.TheVariants as sender
use Rattle.nomos_surface.specs.declared.value_type.ValueType.{ValueType}
use Rattle.nomos_syntax.specs.declared.symbol.Symbol.{Symbol}
use Rattle.nomos_syntax.specs.declared.symbol.Symbol.TheVariants as sym
use Rattle.nomos_syntax.specs.Lexeme.{number as number_text}
use Rattle.nomos_surface.specs.Printed.{Shown, at_offset, number_at, Printer, sign, sign_at, keyword, keyword_at, print_name, print_parted}
use Rattle.nomos_surface.specs.Tree.{TypeTree, one, named, choice, channel, valued, paying, going_up, going_down, grouped, BranchTrees, no_branches, branch, TermTree, number, truth, me, variable, application, no_items, binary, negation, choosing, matching, parenthesized, TermTrees, no_terms, term, ArgTrees, StepTree, label, send, recv, put, taking, pay, getting, work, wait, accept, detach, acquire, release, spawn, binding, empty_list, longer_list, emit, CodeTree, code, LastTree, close, fwd, calling, code_if, case, code_match, ArmTrees, no_arms, arm, ChanParTree, ParTrees, DeclTree, definition, function, process, transaction, FileTree}

-- potentials

-- A quantity of potential is written as its number, or as a star that the checker is to find.
abbrev pub print_quantity : ℕ → Quantity → Shown
print_quantity at (quantity.Number value) = number_at at value
print_quantity at quantity.Star = sign_at at sym.Star

-- A potential is written as its quantity in braces.
abbrev pub print_potential : Potential → Printer
print_potential q after =
    sign_at q.at sym.OpenBrace ∷ print_quantity q.quantity_at q.quantity ∷ sign sym.CloseBrace ∷ after

-- A potential that may be left out is written only where it is there.
abbrev pub print_optional : Option Potential → Printer
print_optional None after = after
print_optional (Some q) after = print_potential q after

-- the types of values

-- The word for the type of whole numbers, and the one for the type of truth values.
abbrev pub base_word : Base → Word
base_word base.Int = word.Int
base_word base.Bool = word.Bool

-- the words `list` at these offsets, and then what the innermost lists hold
abbrev pub print_lists : List ℕ → Shown → Printer
print_lists [] inside after = inside ∷ after
print_lists (at ∷ lists) inside after = keyword_at at word.List ∷ print_lists lists inside after

-- A type of values is a word `list` for each level of lists, and then the word of what they hold.
abbrev pub print_value_type : ValueType → Printer
print_value_type t after = print_lists t.lists (keyword_at t.base_at (base_word t.base)) after

-- types

-- A choice is written `+` where the provider chooses, and `&` where the client does.
abbrev pub choice_sign : Sender → Symbol
choice_sign sender.Provider = sym.Plus
choice_sign sender.Client = sym.Ampersand

-- A channel is handed over under `*` where the provider sends it, and under `-o` where the client does.
abbrev pub channel_sign : Sender → Symbol
channel_sign sender.Provider = sym.Star
channel_sign sender.Client = sym.Lollipop

-- A value is handed over under `/\` where the provider sends it, and under `->` where the client does.
abbrev pub value_sign : Sender → Symbol
value_sign sender.Provider = sym.Wedge
value_sign sender.Client = sym.Arrow

-- `|{q}>` where the provider pays, `<{q}|` where the client does
abbrev pub print_payment : Sender → ℕ → Potential → Printer
print_payment sender.Provider at q after = sign_at at sym.Bar ∷ print_potential q (sign sym.Greater ∷ after)
print_payment sender.Client at q after = sign_at at sym.Less ∷ print_potential q (sign sym.Bar ∷ after)

-- `1` as a type is the number whose text is `1`
abbrev mutual
  pub print_type : TypeTree → Printer
  print_type (one at) after = at_offset at (number_text (codes "1")) ∷ after
  print_type (named n) after = print_name n ∷ after
  print_type (choice s at branches) after =
      sign_at at (choice_sign s) ∷ sign sym.OpenBrace ∷
      print_parted sym.Bar (print_branches branches) (sign sym.CloseBrace ∷ after)
  print_type (channel s at carried goes) after =
      print_type carried (sign_at at (channel_sign s) ∷ print_type goes after)
  print_type (valued s at value goes) after = print_value_type value (sign_at at (value_sign s) ∷ print_type goes after)
  print_type (paying s at q goes) after = print_payment s at q (print_type goes after)
  print_type (going_up at goes) after = keyword_at at word.Up ∷ print_type goes after
  print_type (going_down at goes) after = keyword_at at word.Down ∷ print_type goes after
  print_type (grouped inner) after = sign sym.OpenParen ∷ print_type inner (sign sym.CloseParen ∷ after)

  pub print_branches : BranchTrees → List Printer
  print_branches no_branches = []
  print_branches (branch l goes branches) =
      (λ after. print_name l ∷ sign sym.Colon ∷ print_type goes after) ∷ print_branches branches

-- terms

-- A truth value is written as its word.
abbrev pub truth_word : Bool → Word
truth_word true = word.True
truth_word false = word.False

-- An infix operator is written as its word or its symbol, at the offset where it stands.
abbrev pub print_operator : ℕ → Operator → Shown
print_operator at operator.Or = keyword_at at word.Or
print_operator at operator.And = keyword_at at word.And
print_operator at operator.Less = sign_at at sym.Less
print_operator at operator.Equal = sign_at at sym.Equals
print_operator at operator.Cons = sign_at at sym.DoubleColon
print_operator at operator.Add = sign_at at sym.Plus
print_operator at operator.Sub = sign_at at sym.Minus
print_operator at operator.Mul = sign_at at sym.Star
print_operator at operator.Div = sign_at at sym.Slash
print_operator at operator.Rem = sign_at at sym.Percent

-- `head :: tail =>`
abbrev pub print_heading : NameAt → NameAt → Printer
print_heading head tail after =
    print_name head ∷ sign sym.DoubleColon ∷ print_name tail ∷ sign sym.FatArrow ∷ after

abbrev mutual
  pub print_term : TermTree → Printer
  print_term (number at value) after = number_at at value ∷ after
  print_term (truth at value) after = keyword_at at (truth_word value) ∷ after
  print_term (me at) after = keyword_at at word.Me ∷ after
  print_term (variable n) after = print_name n ∷ after
  print_term (application f arguments) after =
      print_name f ∷ sign sym.OpenParen ∷ print_parted sym.Comma (print_terms arguments) (sign sym.CloseParen ∷ after)
  print_term (no_items at element) after = keyword_at at word.Nil ∷ print_value_type element after
  print_term (binary op at left right) after = print_term left (print_operator at op ∷ print_term right after)
  print_term (negation at inner) after = keyword_at at word.Not ∷ print_term inner after
  print_term (choosing at test holds fails) after =
      keyword_at at word.If ∷
      print_term test (keyword word.Then ∷ print_term holds (keyword word.Else ∷ print_term fails after))
  print_term (matching at matched empty head tail more) after =
      keyword_at at word.Match ∷
      print_term matched (sign sym.OpenBrace ∷ keyword word.Nil ∷ sign sym.FatArrow ∷
      print_term empty (sign sym.Bar ∷ print_heading head tail (print_term more (sign sym.CloseBrace ∷ after))))
  print_term (parenthesized inner) after = sign sym.OpenParen ∷ print_term inner (sign sym.CloseParen ∷ after)

  pub print_terms : TermTrees → List Printer
  print_terms no_terms = []
  print_terms (term first rest) = print_term first ∷ print_terms rest

-- steps

-- A channel is written `self` where it is the one that a process provides, and by its name otherwise.
abbrev pub print_chan : ChanAt → Shown
print_chan (chan.Own at) = keyword_at at word.SelfWord
print_chan (chan.Variable n) = print_name n

-- a name, before what follows
abbrev pub print_named : NameAt → Printer
print_named n after = print_name n ∷ after

-- Arguments stand in parentheses: the values, a semicolon, and then the channels that are handed over.
abbrev pub print_args : ArgTrees → Printer
print_args a after =
    sign sym.OpenParen ∷ print_parted sym.Comma (map print_term a.values) (sign sym.Semicolon ∷
    print_parted sym.Comma (map print_named a.channels) (sign sym.CloseParen ∷ after))

-- A step is written as its word, the channel at which it works, and what it sends, binds or pays.
abbrev pub print_step : StepTree → Printer
print_step (label x l) after = print_chan x ∷ sign sym.Dot ∷ print_name l ∷ after
print_step (send at x y) after = keyword_at at word.Send ∷ print_chan x ∷ print_name y ∷ after
print_step (recv at x y) after = keyword_at at word.Recv ∷ print_chan x ∷ print_name y ∷ after
print_step (put at x e) after = keyword_at at word.Put ∷ print_chan x ∷ print_term e after
print_step (taking at x v) after = keyword_at at word.Take ∷ print_chan x ∷ print_name v ∷ after
print_step (pay at x q) after = keyword_at at word.Pay ∷ print_chan x ∷ print_potential q after
print_step (getting at x q) after = keyword_at at word.Get ∷ print_chan x ∷ print_potential q after
print_step (work at q) after = keyword_at at word.Work ∷ print_potential q after
print_step (wait at x) after = keyword_at at word.Wait ∷ print_name x ∷ after
print_step (accept at) after = keyword_at at word.Accept ∷ after
print_step (detach at) after = keyword_at at word.Detach ∷ after
print_step (acquire at a x) after =
    keyword_at at word.Acquire ∷ print_name a ∷ keyword word.As ∷ print_name x ∷ after
print_step (release at x a) after =
    keyword_at at word.Release ∷ print_name x ∷ keyword word.As ∷ print_name a ∷ after
print_step (spawn at x f arguments) after =
    keyword_at at word.Spawn ∷ print_name x ∷ sign sym.Equals ∷ print_name f ∷ print_args arguments after
print_step (binding at v e) after = keyword_at at word.Let ∷ print_name v ∷ sign sym.Equals ∷ print_term e after
print_step (empty_list at v list_at q t) after =
    keyword_at at word.Let ∷ print_name v ∷ sign sym.Equals ∷ keyword_at list_at word.List ∷
    print_potential q (print_value_type t after)
print_step (longer_list at v e w) after =
    keyword_at at word.Let ∷ print_name v ∷ sign sym.Equals ∷ keyword word.List ∷
    print_term e (sign sym.Comma ∷ print_name w ∷ after)
print_step (emit at e) after = keyword_at at word.Emit ∷ print_term e after

-- codes

-- each step with a `;` behind it
abbrev pub print_steps : List StepTree → Printer
print_steps [] after = after
print_steps (step ∷ steps) after = print_step step (sign sym.Semicolon ∷ print_steps steps after)

abbrev mutual
  pub print_code : CodeTree → Printer
  print_code (code steps last) after = print_steps steps (print_last last after)

  pub print_last : LastTree → Printer
  print_last (close at) after = keyword_at at word.Close ∷ after
  print_last (fwd at x) after = keyword_at at word.Fwd ∷ print_name x ∷ after
  print_last (calling at f arguments) after = keyword_at at word.Call ∷ print_name f ∷ print_args arguments after
  print_last (code_if at test holds fails) after =
      keyword_at at word.If ∷
      print_term test (sign sym.OpenBrace ∷ print_code holds (sign sym.CloseBrace ∷ keyword word.Else ∷
      sign sym.OpenBrace ∷ print_code fails (sign sym.CloseBrace ∷ after)))
  print_last (case at x arms) after =
      keyword_at at word.Case ∷ print_chan x ∷ sign sym.OpenBrace ∷
      print_parted sym.Bar (print_arms arms) (sign sym.CloseBrace ∷ after)
  print_last (code_match at w empty head tail more) after =
      keyword_at at word.Match ∷ print_name w ∷ sign sym.OpenBrace ∷ keyword word.Nil ∷ sign sym.FatArrow ∷
      print_code empty (sign sym.Bar ∷ print_heading head tail (print_code more (sign sym.CloseBrace ∷ after)))

  pub print_arms : ArmTrees → List Printer
  print_arms no_arms = []
  print_arms (arm l goes arms) =
      (λ after. print_name l ∷ sign sym.FatArrow ∷ print_code goes after) ∷ print_arms arms

-- declarations

-- A value parameter is written as its name, a colon and its type.
abbrev pub print_value_par : ValuePar → Printer
print_value_par p after = print_name p.name ∷ sign sym.Colon ∷ print_value_type p.value after

-- `list {q}`, where it is there
abbrev pub print_list_potential : Option ListPotential → Printer
print_list_potential None after = after
print_list_potential (Some l) after = keyword_at l.list_at word.List ∷ print_potential l.potential after

-- A process parameter is written like a value parameter, with the potential of a list before its type.
abbrev pub print_par : ProcessPar → Printer
print_par p after =
    print_name p.name ∷ sign sym.Colon ∷ print_list_potential p.«list» (print_value_type p.value after)

-- A channel parameter is written as its name, a colon and its session type.
abbrev pub print_chan_par : ChanParTree → Printer
print_chan_par p after = print_name p.name ∷ sign sym.Colon ∷ print_type p.goes after

-- Parameters stand in parentheses: the values and lists, a semicolon, and then the channels.
abbrev pub print_pars : ParTrees → Printer
print_pars p after =
    sign sym.OpenParen ∷ print_parted sym.Comma (map print_par p.values) (sign sym.Semicolon ∷
    print_parted sym.Comma (map print_chan_par p.channels) (sign sym.CloseParen ∷ after))

-- The letter of a mode: `R` a linear asset, `S` a shared contract that waits, `L` one while a client holds it.
abbrev pub mode_word : OfferedMode → Word
mode_word mode.R = word.R
mode_word mode.S = word.S
mode_word mode.L = word.L

-- the code of a declaration, and its end
abbrev pub print_body : CodeTree → Printer
print_body body after = sign sym.Equals ∷ print_code body (sign sym.Semicolon ∷ after)

-- A declaration is written with its word, its mode and its name, and ends with a semicolon.
abbrev pub print_decl : DeclTree → Printer
print_decl (definition at m n body) after =
    keyword_at at word.«Type» ∷ keyword (mode_word m) ∷ print_name n ∷ sign sym.Equals ∷
    print_type body (sign sym.Semicolon ∷ after)
print_decl (function at n pars gives body) after =
    keyword_at at word.Fn ∷ print_name n ∷ sign sym.OpenParen ∷
    print_parted sym.Comma (map print_value_par pars) (sign sym.CloseParen ∷ sign sym.Colon ∷
    print_value_type gives (sign sym.Equals ∷ print_term body (sign sym.Semicolon ∷ after)))
print_decl (process at m n pars q offers body) after =
    keyword_at at word.Proc ∷ keyword (mode_word m) ∷ print_name n ∷
    print_pars pars (print_optional q (sign sym.Colon ∷ print_type offers (print_body body after)))
print_decl (transaction at n pars q body) after =
    keyword_at at word.Proc ∷ keyword word.T ∷ print_name n ∷ print_pars pars (print_optional q (print_body body after))

-- Declarations are written one behind the other.
abbrev pub print_decls : List DeclTree → Printer
print_decls [] after = after
print_decls (d ∷ decls) after = print_decl d (print_decls decls after)

-- files

-- The word of a cost model: only written `work` costs, each send does, or each instruction does.
abbrev pub cost_word : CostModel → Word
cost_word cost.Ticks = word.Ticks
cost_word cost.Sends = word.Sends
cost_word cost.All = word.All

-- The cost line of a text is written only where it is there, before all declarations.
abbrev pub print_cost : Option CostLine → Printer
print_cost None after = after
print_cost (Some c) after = keyword_at c.at word.Cost ∷ keyword (cost_word c.model) ∷ sign sym.Semicolon ∷ after

-- The tokens of a whole text: its cost line, and then its declarations.
abbrev pub print_file : FileTree → List Shown
print_file f = print_cost f.cost (print_decls f.decls [])
