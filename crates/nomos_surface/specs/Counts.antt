-- What counts in a tree: nodes and stars, as the limits of a text have them. Parentheses have no node.
use Rattle.std.specs.Prelude.{ℕ, ◌+◌, List, [], ◌∷◌, length, Option, Some, None}
use Rattle.nomos_surface.specs.declared.declarations.ListPotential.{ListPotential}
use Rattle.nomos_surface.specs.declared.declarations.ProcessPar.{ProcessPar}
use Rattle.nomos_surface.specs.declared.declarations.ValuePar.{ValuePar}
use Rattle.nomos_surface.specs.declared.potential.Potential.{Potential}
use Rattle.nomos_surface.specs.declared.potential.Quantity.{Quantity}
use Rattle.nomos_surface.specs.declared.potential.Quantity.TheVariants as quantity
use Rattle.nomos_surface.specs.declared.value_type.ValueType.{ValueType}
use Rattle.nomos_surface.specs.Tree.{TypeTree, one, named, choice, channel, valued, paying, going_up, going_down, grouped, BranchTrees, no_branches, branch, TermTree, number, truth, me, variable, application, no_items, binary, negation, choosing, matching, parenthesized, TermTrees, no_terms, term, ArgTrees, StepTree, put, pay, getting, work, spawn, binding, empty_list, longer_list, emit, CodeTree, code, LastTree, close, fwd, calling, code_if, case, code_match, ArmTrees, no_arms, arm, ChanParTree, ParTrees, DeclTree, definition, function, process, transaction, FileTree}

-- nodes and stars
pub record Count : Type 0 where
  pub nodes : ℕ
  pub stars : ℕ

abbrev pub nothing : Count
nothing = record { nodes = 0; stars = 0 }

abbrev pub nodes : ℕ → Count
nodes n = record { nodes = n; stars = 0 }

-- what counts in two parts
infixr 30 ◌⊕◌
abbrev pub ◌⊕◌ : Count → Count → Count
a ⊕ b = record { nodes = a.nodes + b.nodes; stars = a.stars + b.stars }

-- the sum over a list
abbrev pub in_each : {A : Type 0} → (A → Count) → List A → Count
in_each count [] = nothing
in_each count (x ∷ xs) = count x ⊕ in_each count xs

-- potentials: a star counts

abbrev pub in_quantity : Quantity → Count
in_quantity (quantity.Number value) = nothing
in_quantity quantity.Star = record { nodes = 0; stars = 1 }

abbrev pub in_potential : Potential → Count
in_potential q = in_quantity q.quantity

abbrev pub in_optional : Option Potential → Count
in_optional None = nothing
in_optional (Some q) = in_potential q

-- types of values: each word is a node
abbrev pub in_value_type : ValueType → Count
in_value_type t = nodes (length t.lists + 1)

-- types: each constructor and each name is a node
unfoldable mutual
  pub in_type : TypeTree → Count
  in_type (one at) = nodes 1
  in_type (named n) = nodes 1
  in_type (choice sender at branches) = nodes 1 ⊕ in_branches branches
  in_type (channel sender at carried goes) = in_type carried ⊕ (nodes 1 ⊕ in_type goes)
  in_type (valued sender at value goes) = in_value_type value ⊕ (nodes 1 ⊕ in_type goes)
  in_type (paying sender at potential goes) = nodes 1 ⊕ (in_potential potential ⊕ in_type goes)
  in_type (going_up at goes) = nodes 1 ⊕ in_type goes
  in_type (going_down at goes) = nodes 1 ⊕ in_type goes
  in_type (grouped inner) = in_type inner

  pub in_branches : BranchTrees → Count
  in_branches no_branches = nothing
  in_branches (branch l goes branches) = in_type goes ⊕ in_branches branches

-- terms: each form is a node
unfoldable mutual
  pub in_term : TermTree → Count
  in_term (number at value) = nodes 1
  in_term (truth at value) = nodes 1
  in_term (me at) = nodes 1
  in_term (variable n) = nodes 1
  in_term (application f arguments) = nodes 1 ⊕ in_terms arguments
  in_term (no_items at element) = nodes 1 ⊕ in_value_type element
  in_term (binary operator at left right) = in_term left ⊕ (nodes 1 ⊕ in_term right)
  in_term (negation at inner) = nodes 1 ⊕ in_term inner
  in_term (choosing at test holds fails) = nodes 1 ⊕ (in_term test ⊕ (in_term holds ⊕ in_term fails))
  in_term (matching at matched empty head tail more) = nodes 1 ⊕ (in_term matched ⊕ (in_term empty ⊕ in_term more))
  in_term (parenthesized inner) = in_term inner

  pub in_terms : TermTrees → Count
  in_terms no_terms = nothing
  in_terms (term first rest) = in_term first ⊕ in_terms rest

abbrev pub in_args : ArgTrees → Count
in_args a = in_each in_term a.values

-- steps: each is a node, and so is the word `list` before a potential
abbrev pub in_step : StepTree → Count
in_step (put at x e) = nodes 1 ⊕ in_term e
in_step (pay at x q) = nodes 1 ⊕ in_potential q
in_step (getting at x q) = nodes 1 ⊕ in_potential q
in_step (work at q) = nodes 1 ⊕ in_potential q
in_step (spawn at x f arguments) = nodes 1 ⊕ in_args arguments
in_step (binding at v e) = nodes 1 ⊕ in_term e
in_step (empty_list at v list_at q t) = nodes 1 ⊕ (nodes 1 ⊕ (in_potential q ⊕ in_value_type t))
in_step (longer_list at v e w) = nodes 1 ⊕ in_term e
in_step (emit at e) = nodes 1 ⊕ in_term e
in_step _ = nodes 1

-- codes: the last instruction is a node, and so is each branch of a `case`
unfoldable mutual
  pub in_code : CodeTree → Count
  in_code (code steps last) = in_each in_step steps ⊕ in_last last

  pub in_last : LastTree → Count
  in_last (close at) = nodes 1
  in_last (fwd at x) = nodes 1
  in_last (calling at f arguments) = nodes 1 ⊕ in_args arguments
  in_last (code_if at test holds fails) = nodes 1 ⊕ (in_term test ⊕ (in_code holds ⊕ in_code fails))
  in_last (case at x arms) = nodes 1 ⊕ in_arms arms
  in_last (code_match at w empty head tail more) = nodes 1 ⊕ (in_code empty ⊕ in_code more)

  pub in_arms : ArmTrees → Count
  in_arms no_arms = nothing
  in_arms (arm l goes arms) = nodes 1 ⊕ (in_code goes ⊕ in_arms arms)

-- parameters: the words of value types are nodes, and so is the word `list` before a potential

abbrev pub in_value_par : ValuePar → Count
in_value_par p = in_value_type p.value

abbrev pub in_list_potential : Option ListPotential → Count
in_list_potential None = nothing
in_list_potential (Some l) = nodes 1 ⊕ in_potential l.potential

abbrev pub in_par : ProcessPar → Count
in_par p = in_list_potential p.«list» ⊕ in_value_type p.value

abbrev pub in_chan_par : ChanParTree → Count
in_chan_par p = in_type p.goes

abbrev pub in_pars : ParTrees → Count
in_pars p = in_each in_par p.values ⊕ in_each in_chan_par p.channels

-- declarations: each is a node
abbrev pub in_decl : DeclTree → Count
in_decl (definition at mode n body) = nodes 1 ⊕ in_type body
in_decl (function at n pars gives body) = nodes 1 ⊕ (in_each in_value_par pars ⊕ (in_value_type gives ⊕ in_term body))
in_decl (process at mode n pars q offers body) =
    nodes 1 ⊕ (in_pars pars ⊕ (in_optional q ⊕ (in_type offers ⊕ in_code body)))
in_decl (transaction at n pars q body) = nodes 1 ⊕ (in_pars pars ⊕ (in_optional q ⊕ in_code body))

-- what counts in the tree of a text
abbrev pub in_file : FileTree → Count
in_file tree = in_each in_decl tree.decls
