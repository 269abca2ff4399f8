-- Names and numbers of a tree whose tokens keep to the rules of the grammar are within their limits.
use Rattle.std.proofs.Common.{ℕ, ◌≤◌, List, [], ◌∷◌, ◌++◌, map, Option, Some, None, All, subst}
use Rattle.std.proofs.lemmas.List.Elements.{All-head, All-tail}
use Rattle.nomos_grammar.specs.Offence.{AllKeep, IsSmall, number_limit}
use Rattle.nomos_surface.specs.declared.declarations.ListPotential.{ListPotential}
use Rattle.nomos_surface.specs.declared.declarations.ProcessPar.{ProcessPar}
use Rattle.nomos_surface.specs.declared.declarations.ValuePar.{ValuePar}
use Rattle.nomos_surface.specs.declared.name_at.NameAt.{NameAt}
use Rattle.nomos_surface.specs.declared.potential.Potential.{Potential}
use Rattle.nomos_surface.specs.declared.potential.Quantity.{Quantity}
use Rattle.nomos_surface.specs.declared.potential.Quantity.TheVariants as quantity
use Rattle.nomos_surface.specs.declared.steps.ChanAt.{ChanAt}
use Rattle.nomos_surface.specs.declared.steps.ChanAt.TheVariants as chan
use Rattle.nomos_surface.specs.declared.surface.CostLine.{CostLine}
use Rattle.nomos_surface.specs.declared.types.Sender.{Sender}
use Rattle.nomos_surface.specs.declared.types.Sender.TheVariants as sender
use Rattle.nomos_surface.specs.declared.value_type.ValueType.{ValueType}
use Rattle.nomos_surface.specs.TreeBounds.{KeepsName, KeepsChan, KeepsQuantity, KeepsPotential, KeepsOptional, KeepsValueType, KeepsType, KeepsBranches, KeepsTerm, KeepsTerms, KeepsArgs, KeepsStep, KeepsCode, KeepsLast, KeepsArms, KeepsValuePar, KeepsListPotential, KeepsPar, KeepsChanPar, KeepsPars, KeepsDecl}
use Rattle.nomos_surface.specs.Grammatical.{Each}
use Rattle.nomos_surface.specs.mirror.PrintedNames.{IsKeptLexeme, IsKept, AllKept, none_kept, more_kept, Tells}
use Rattle.nomos_surface.specs.mirror.Shallow.{ShallowName, ShallowValueType, ShallowType, ShallowBranches, ShallowTerm, ShallowTerms, ShallowArgs, ShallowStep, ShallowCode, ShallowLast, ShallowArms, ShallowValuePar, ShallowPar, ShallowChanPar, ShallowPars, ShallowDecl}
use Rattle.nomos_surface.specs.Print.{print_quantity, print_potential, print_optional, print_lists, print_value_type, print_payment, print_type, print_branches, print_term, print_terms, print_chan, print_named, print_args, print_step, print_steps, print_code, print_last, print_arms, print_value_par, print_list_potential, print_par, print_chan_par, print_pars, print_body, print_decl, print_decls, print_cost, print_file}
use Rattle.nomos_surface.specs.Printed.{Shown, anywhere, at_offset, number_at, HasValue, Meets, Spells, Printer, print_more, print_parted}
use Rattle.nomos_surface.specs.Tree.{TypeTree, one, named, choice, channel, valued, paying, going_up, going_down, grouped, BranchTrees, no_branches, branch, TermTree, number, truth, me, variable, application, no_items, binary, negation, choosing, matching, parenthesized, TermTrees, no_terms, term, ArgTrees, StepTree, label, send, recv, put, taking, pay, getting, work, wait, accept, detach, acquire, release, spawn, binding, empty_list, longer_list, emit, CodeTree, code, LastTree, close, fwd, calling, code_if, case, code_match, ArmTrees, no_arms, arm, ChanParTree, ParTrees, DeclTree, definition, function, process, transaction, FileTree}
use Rattle.nomos_syntax.specs.declared.symbol.Symbol.{Symbol}
use Rattle.nomos_syntax.specs.declared.symbol.Symbol.TheVariants as sym
use Rattle.nomos_syntax.specs.Lexeme.{Lexeme, name, reserved, number as number_text, symbol, bad, Placed}
use Rattle.nomos_syntax.specs.TextLimits.{IsShort}
use Rattle.nomos_syntax.specs.NamedTokens.{IsWellNamed}

-- from tokens that keep to the rules to what is printed

-- what stands as a name is one, and short
lexeme_kept : (l : Lexeme) → IsWellNamed l → IsShort l → IsKeptLexeme l
lexeme_kept (name text) is short = record { name = is; short = short }
lexeme_kept (reserved w) is short = tt
lexeme_kept (number_text digits) is short = tt
lexeme_kept (symbol s) is short = tt
lexeme_kept (bad byte) is short = tt

-- the value of a small number is small
value_kept : (l : Lexeme) (value : ℕ) → HasValue value l → IsSmall l → value ≤ number_limit
value_kept (name text) value has small = absurd has
value_kept (reserved w) value has small = absurd has
value_kept (number_text digits) value has small = subst (λ (v : ℕ). v ≤ number_limit) has small
value_kept (symbol s) value has small = absurd has
value_kept (bad byte) value has small = absurd has

-- what a kept token has to be is kept
shown_kept : (s : Shown) (x : Placed) → Meets s x → IsWellNamed x.lexeme → IsShort x.lexeme → IsSmall x.lexeme
    → IsKept s
shown_kept (anywhere lexeme) x meets is short small = tt
shown_kept (at_offset at lexeme) x meets is short small =
    subst (λ (t : Placed). IsKeptLexeme t.lexeme) meets (lexeme_kept x.lexeme is short)
shown_kept (number_at at value) x meets is short small = value_kept x.lexeme value meets.1 small

-- what tokens spell that keep to the rules is kept
pub spelled-kept : (shown : List Shown) (front tokens : List Placed) → Spells shown tokens → AllKeep front tokens
    → All (λ t. IsWellNamed t.lexeme) tokens → AllKept shown
spelled-kept [] front [] spelled keep names = none_kept
spelled-kept [] front (x ∷ tokens) spelled keep names = absurd spelled
spelled-kept (s ∷ shown) front [] spelled keep names = absurd spelled
spelled-kept (s ∷ shown) front (x ∷ tokens) (meets, spelled) ((before, (short, (small, others))), keep) names =
    more_kept (shown_kept s x meets (All-head (λ t. IsWellNamed t.lexeme) x tokens names) short small)
    (spelled-kept shown (front ++ x ∷ []) tokens spelled keep (All-tail (λ t. IsWellNamed t.lexeme) x tokens names))

-- behind what is printed first
behind : {s : Shown} {shown : List Shown} → AllKept (s ∷ shown) → AllKept shown
behind (more_kept first k) = k

-- lists

-- behind the sign that follows an item
behind_sign : (s : Symbol) (printers : List Printer) (after : List Shown) → AllKept (print_more s printers after)
    → AllKept (print_parted s printers after)
behind_sign s [] after k = k
behind_sign s (p ∷ printers) after k = behind k

-- what is printed of each item tells of it
parted_kept : {X : Type 0} (s : Symbol) (printer : X → Printer) (Shallow Kept : X → Type 0)
    → ((x : X) → Shallow x → Tells (Kept x) (printer x)) → (xs : List X) → Each Shallow xs
    → Tells (Each Kept xs) (print_parted s (map printer xs))
parted_kept s printer Shallow Kept each [] shallow after k = (tt, k)
parted_kept s printer Shallow Kept each (x ∷ xs) shallow after k =
    let (here, more) = each x shallow.0 _ k in
    let next = behind_sign s (map printer xs) after more in
    let (others, rest) = parted_kept s printer Shallow Kept each xs shallow.1 after next in
    ((here, others), rest)

named_kept : (n : NameAt) → ShallowName n → Tells (KeepsName n) (print_named n)
named_kept n shallow after (more_kept is k) = (is, k)

-- potentials

quantity_kept : (at : ℕ) (q : Quantity) → IsKept (print_quantity at q) → KeepsQuantity q
quantity_kept at (quantity.Number value) is = is
quantity_kept at quantity.Star is = tt

potential_kept : (q : Potential) → Tells (KeepsPotential q) (print_potential q)
potential_kept q after (more_kept first (more_kept is (more_kept last k))) =
    (quantity_kept q.quantity_at q.quantity is, k)

optional_kept : (q : Option Potential) → Tells (KeepsOptional q) (print_optional q)
optional_kept None after k = (tt, k)
optional_kept (Some q) after k = potential_kept q after k

-- the types of values

lists_behind : (lists : List ℕ) (inside : Shown) (after : List Shown) → AllKept (print_lists lists inside after)
    → AllKept after
lists_behind [] inside after k = behind k
lists_behind (at ∷ lists) inside after k = lists_behind lists inside after (behind k)

value_type_kept : (t : ValueType) → ShallowValueType t → Tells (KeepsValueType t) (print_value_type t)
value_type_kept t shallow after k = (shallow, lists_behind t.lists _ after k)

-- types

payment_kept : (s : Sender) (at : ℕ) (q : Potential) → Tells (KeepsPotential q) (print_payment s at q)
payment_kept sender.Provider at q after k =
    let (is, rest) = potential_kept q _ (behind k) in
    (is, behind rest)
payment_kept sender.Client at q after k =
    let (is, rest) = potential_kept q _ (behind k) in
    (is, behind rest)

mutual
  type_kept : (t : TypeTree) → ShallowType t → Tells (KeepsType t) (print_type t)
  type_kept (one at) shallow after k = (tt, behind k)
  type_kept (named n) shallow after k = named_kept n shallow after k
  type_kept (choice s at branches) shallow after k =
      let (is, rest) = branches_kept branches shallow _ (behind (behind k)) in
      (is, behind rest)
  type_kept (channel s at carried goes) shallow after k =
      let (first, middle) = type_kept carried shallow.0 _ k in
      let (second, rest) = type_kept goes shallow.1 after (behind middle) in
      ((first, second), rest)
  type_kept (valued s at value goes) shallow after k =
      let (first, middle) = value_type_kept value shallow.0 _ k in
      let (second, rest) = type_kept goes shallow.1 after (behind middle) in
      ((first, second), rest)
  type_kept (paying s at q goes) shallow after k =
      let (first, middle) = payment_kept s at q _ k in
      let (second, rest) = type_kept goes shallow.1 after middle in
      ((first, second), rest)
  type_kept (going_up at goes) shallow after k = type_kept goes shallow after (behind k)
  type_kept (going_down at goes) shallow after k = type_kept goes shallow after (behind k)
  type_kept (grouped inner) shallow after k =
      let (is, rest) = type_kept inner shallow _ (behind k) in
      (is, behind rest)

  branches_kept : (branches : BranchTrees) → ShallowBranches branches
      → Tells (KeepsBranches branches) (print_parted sym.Bar (print_branches branches))
  branches_kept no_branches shallow after k = (tt, k)
  branches_kept (branch l goes branches) shallow after (more_kept label_is (more_kept colon k)) =
      let (is, more) = type_kept goes shallow.1 _ k in
      let next = behind_sign sym.Bar (print_branches branches) after more in
      let (others, rest) = branches_kept branches shallow.2 after next in
      ((label_is, is, others), rest)

-- terms

mutual
  term_kept : (t : TermTree) → ShallowTerm t → Tells (KeepsTerm t) (print_term t)
  term_kept (number at value) shallow after (more_kept is k) = (is, k)
  term_kept (truth at value) shallow after k = (tt, behind k)
  term_kept (me at) shallow after k = (tt, behind k)
  term_kept (variable n) shallow after k = named_kept n shallow after k
  term_kept (application f arguments) shallow after (more_kept f_is k) =
      let (is, rest) = terms_kept arguments shallow.1 _ (behind k) in
      ((f_is, is), behind rest)
  term_kept (no_items at element) shallow after k = value_type_kept element shallow after (behind k)
  term_kept (binary op at left right) shallow after k =
      let (first, middle) = term_kept left shallow.0 _ k in
      let (second, rest) = term_kept right shallow.1 after (behind middle) in
      ((first, second), rest)
  term_kept (negation at inner) shallow after k = term_kept inner shallow after (behind k)
  term_kept (choosing at test holds fails) shallow after k =
      let (a, k1) = term_kept test shallow.0 _ (behind k) in
      let (b, k2) = term_kept holds shallow.1 _ (behind k1) in
      let (c, k3) = term_kept fails shallow.2 after (behind k2) in
      ((a, b, c), k3)
  term_kept (matching at matched empty head tail more) shallow after k =
      let (a, k1) = term_kept matched shallow.0 _ (behind k) in
      let (b, k2) = term_kept empty shallow.1 _ (behind (behind (behind k1))) in
      let (h, k3) = named_kept head tt _ (behind k2) in
      let (t, k4) = named_kept tail tt _ (behind k3) in
      let (c, k5) = term_kept more shallow.4 _ (behind k4) in
      ((a, b, h, t, c), behind k5)
  term_kept (parenthesized inner) shallow after k =
      let (is, rest) = term_kept inner shallow _ (behind k) in
      (is, behind rest)

  terms_kept : (terms : TermTrees) → ShallowTerms terms
      → Tells (KeepsTerms terms) (print_parted sym.Comma (print_terms terms))
  terms_kept no_terms shallow after k = (tt, k)
  terms_kept (term first rest) shallow after k =
      let (is, more) = term_kept first shallow.0 _ k in
      let next = behind_sign sym.Comma (print_terms rest) after more in
      let (others, end) = terms_kept rest shallow.1 after next in
      ((is, others), end)

-- steps

chan_kept : (x : ChanAt) → Tells (KeepsChan x) (λ after. print_chan x ∷ after)
chan_kept (chan.Own at) after k = (tt, behind k)
chan_kept (chan.Variable n) after k = named_kept n tt after k

-- the arguments of a process
args_kept : (a : ArgTrees) → ShallowArgs a → Tells (KeepsArgs a) (print_args a)
args_kept a shallow after k =
    let (values, middle) =
    parted_kept sym.Comma print_term ShallowTerm KeepsTerm term_kept a.values shallow.0 _ (behind k) in
    let (channels, rest) =
    parted_kept sym.Comma print_named ShallowName KeepsName named_kept a.channels shallow.1 _ (behind middle) in
    ((values, channels), behind rest)

-- a channel and then a name
chan_name_kept : (x : ChanAt) (n : NameAt)
    → Tells (KeepsChan x × KeepsName n) (λ after. print_chan x ∷ print_named n after)
chan_name_kept x n after k =
    let (first, middle) = chan_kept x _ k in
    let (second, rest) = named_kept n tt after middle in
    ((first, second), rest)

-- a channel and then a potential
chan_potential_kept : (x : ChanAt) (q : Potential)
    → Tells (KeepsChan x × KeepsPotential q) (λ after. print_chan x ∷ print_potential q after)
chan_potential_kept x q after k =
    let (first, middle) = chan_kept x _ k in
    let (second, rest) = potential_kept q after middle in
    ((first, second), rest)

step_kept : (s : StepTree) → ShallowStep s → Tells (KeepsStep s) (print_step s)
step_kept (label x l) shallow after k =
    let (first, middle) = chan_kept x _ k in
    let (second, rest) = named_kept l tt after (behind middle) in
    ((first, second), rest)
step_kept (send at x y) shallow after k = chan_name_kept x y after (behind k)
step_kept (recv at x y) shallow after k = chan_name_kept x y after (behind k)
step_kept (put at x e) shallow after k =
    let (first, middle) = chan_kept x _ (behind k) in
    let (second, rest) = term_kept e shallow.1 after middle in
    ((first, second), rest)
step_kept (taking at x v) shallow after k = chan_name_kept x v after (behind k)
step_kept (pay at x q) shallow after k = chan_potential_kept x q after (behind k)
step_kept (getting at x q) shallow after k = chan_potential_kept x q after (behind k)
step_kept (work at q) shallow after k = potential_kept q after (behind k)
step_kept (wait at x) shallow after k = named_kept x tt after (behind k)
step_kept (accept at) shallow after k = (tt, behind k)
step_kept (detach at) shallow after k = (tt, behind k)
step_kept (acquire at a x) shallow after (more_kept _ (more_kept first (more_kept _ (more_kept second k)))) =
    ((first, second), k)
step_kept (release at x a) shallow after (more_kept _ (more_kept first (more_kept _ (more_kept second k)))) =
    ((first, second), k)
step_kept (spawn at x f arguments) shallow after (more_kept _ (more_kept x_is (more_kept _ (more_kept f_is k)))) =
    let (is, rest) = args_kept arguments shallow.2 after k in
    ((x_is, f_is, is), rest)
step_kept (binding at v e) shallow after (more_kept _ (more_kept v_is (more_kept _ k))) =
    let (is, rest) = term_kept e shallow.1 after k in
    ((v_is, is), rest)
step_kept (empty_list at v list_at q t) shallow after (more_kept _ (more_kept v_is (more_kept _ (more_kept _ k)))) =
    let (q_is, middle) = potential_kept q _ k in
    let (t_is, rest) = value_type_kept t shallow.2 after middle in
    ((v_is, q_is, t_is), rest)
step_kept (longer_list at v e w) shallow after (more_kept _ (more_kept v_is (more_kept _ (more_kept _ k)))) =
    let (e_is, middle) = term_kept e shallow.1 _ k in
    let (w_is, rest) = named_kept w tt after (behind middle) in
    ((v_is, e_is, w_is), rest)
step_kept (emit at e) shallow after k = term_kept e shallow after (behind k)

-- codes

steps_kept : (steps : List StepTree) → Each ShallowStep steps → Tells (Each KeepsStep steps) (print_steps steps)
steps_kept [] shallow after k = (tt, k)
steps_kept (s ∷ steps) shallow after k =
    let (is, more) = step_kept s shallow.0 _ k in
    let (others, rest) = steps_kept steps shallow.1 after (behind more) in
    ((is, others), rest)

mutual
  code_kept : (c : CodeTree) → ShallowCode c → Tells (KeepsCode c) (print_code c)
  code_kept (code steps last) shallow after k =
      let (first, middle) = steps_kept steps shallow.0 _ k in
      let (second, rest) = last_kept last shallow.1 after middle in
      ((first, second), rest)

  last_kept : (l : LastTree) → ShallowLast l → Tells (KeepsLast l) (print_last l)
  last_kept (close at) shallow after k = (tt, behind k)
  last_kept (fwd at x) shallow after k = named_kept x tt after (behind k)
  last_kept (calling at f arguments) shallow after (more_kept _ (more_kept f_is k)) =
      let (is, rest) = args_kept arguments shallow.1 after k in
      ((f_is, is), rest)
  last_kept (code_if at test holds fails) shallow after k =
      let (a, k1) = term_kept test shallow.0 _ (behind k) in
      let (b, k2) = code_kept holds shallow.1 _ (behind k1) in
      let (c, k3) = code_kept fails shallow.2 _ (behind (behind (behind k2))) in
      ((a, b, c), behind k3)
  last_kept (case at x arms) shallow after k =
      let (first, middle) = chan_kept x _ (behind k) in
      let (second, rest) = arms_kept arms shallow.1 _ (behind middle) in
      ((first, second), behind rest)
  last_kept (code_match at w empty head tail more) shallow after k =
      let (a, k1) = named_kept w tt _ (behind k) in
      let (b, k2) = code_kept empty shallow.1 _ (behind (behind (behind k1))) in
      let (h, k3) = named_kept head tt _ (behind k2) in
      let (t, k4) = named_kept tail tt _ (behind k3) in
      let (c, k5) = code_kept more shallow.4 _ (behind k4) in
      ((a, b, h, t, c), behind k5)

  arms_kept : (arms : ArmTrees) → ShallowArms arms → Tells (KeepsArms arms) (print_parted sym.Bar (print_arms arms))
  arms_kept no_arms shallow after k = (tt, k)
  arms_kept (arm l goes arms) shallow after (more_kept l_is (more_kept arrow k)) =
      let (is, more) = code_kept goes shallow.1 _ k in
      let next = behind_sign sym.Bar (print_arms arms) after more in
      let (others, rest) = arms_kept arms shallow.2 after next in
      ((l_is, is, others), rest)

-- declarations

value_par_kept : (p : ValuePar) → ShallowValuePar p → Tells (KeepsValuePar p) (print_value_par p)
value_par_kept p shallow after (more_kept name_is (more_kept colon k)) =
    let (is, rest) = value_type_kept p.value shallow.1 after k in
    ((name_is, is), rest)

list_potential_kept : (l : Option ListPotential) → Tells (KeepsListPotential l) (print_list_potential l)
list_potential_kept None after k = (tt, k)
list_potential_kept (Some l) after k = potential_kept l.potential after (behind k)

par_kept : (p : ProcessPar) → ShallowPar p → Tells (KeepsPar p) (print_par p)
par_kept p shallow after (more_kept name_is (more_kept colon k)) =
    let (first, middle) = list_potential_kept p.«list» _ k in
    let (second, rest) = value_type_kept p.value shallow.2 after middle in
    ((name_is, first, second), rest)

chan_par_kept : (p : ChanParTree) → ShallowChanPar p → Tells (KeepsChanPar p) (print_chan_par p)
chan_par_kept p shallow after (more_kept name_is (more_kept colon k)) =
    let (is, rest) = type_kept p.goes shallow.1 after k in
    ((name_is, is), rest)

pars_kept : (p : ParTrees) → ShallowPars p → Tells (KeepsPars p) (print_pars p)
pars_kept p shallow after k =
    let (values, middle) =
    parted_kept sym.Comma print_par ShallowPar KeepsPar par_kept p.values shallow.0 _ (behind k) in
    let (channels, rest) =
    parted_kept sym.Comma print_chan_par ShallowChanPar KeepsChanPar chan_par_kept p.channels shallow.1 _
    (behind middle) in
    ((values, channels), behind rest)

body_kept : (c : CodeTree) → ShallowCode c → Tells (KeepsCode c) (print_body c)
body_kept c shallow after k =
    let (is, rest) = code_kept c shallow _ (behind k) in
    (is, behind rest)

decl_kept : (d : DeclTree) → ShallowDecl d → Tells (KeepsDecl d) (print_decl d)
decl_kept (definition at m n body) shallow after (more_kept _ (more_kept _ (more_kept n_is (more_kept _ k)))) =
    let (is, rest) = type_kept body shallow.1 _ k in
    ((n_is, is), behind rest)
decl_kept (function at n pars gives body) shallow after (more_kept _ (more_kept n_is (more_kept _ k))) =
    let (pars_are, k1) =
    parted_kept sym.Comma print_value_par ShallowValuePar KeepsValuePar value_par_kept pars shallow.1 _ k in
    let (gives_is, k2) = value_type_kept gives shallow.2 _ (behind (behind k1)) in
    let (body_is, k3) = term_kept body shallow.3 _ (behind k2) in
    ((n_is, pars_are, gives_is, body_is), behind k3)
decl_kept (process at m n pars q offers body) shallow after (more_kept _ (more_kept _ (more_kept n_is k))) =
    let (pars_are, k1) = pars_kept pars shallow.1 _ k in
    let (q_is, k2) = optional_kept q _ k1 in
    let (offers_is, k3) = type_kept offers shallow.3 _ (behind k2) in
    let (body_is, k4) = body_kept body shallow.4 after k3 in
    ((n_is, pars_are, q_is, offers_is, body_is), k4)
decl_kept (transaction at n pars q body) shallow after (more_kept _ (more_kept _ (more_kept n_is k))) =
    let (pars_are, k1) = pars_kept pars shallow.1 _ k in
    let (q_is, k2) = optional_kept q _ k1 in
    let (body_is, k3) = body_kept body shallow.3 after k2 in
    ((n_is, pars_are, q_is, body_is), k3)

decls_kept : (decls : List DeclTree) → Each ShallowDecl decls → (after : List Shown) → AllKept (print_decls decls after)
    → Each KeepsDecl decls
decls_kept [] shallow after k = tt
decls_kept (d ∷ decls) shallow after k =
    let (is, more) = decl_kept d shallow.0 _ k in
    (is, decls_kept decls shallow.1 after more)

-- files

cost_behind : (c : Option CostLine) (after : List Shown) → AllKept (print_cost c after) → AllKept after
cost_behind None after k = k
cost_behind (Some c) after k = behind (behind (behind k))

-- Where all that a tree prints is kept, and its lists in lists are shallow, its declarations are within the limits.
pub file-kept : (tree : FileTree) → Each ShallowDecl tree.decls → AllKept (print_file tree) → Each KeepsDecl tree.decls
file-kept tree shallow k =
    decls_kept tree.decls shallow [] (cost_behind tree.cost (print_decls tree.decls []) k)
