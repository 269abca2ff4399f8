-- The trees that are within the limits of texts: names, numbers, lists in lists, nodes and stars.
use Rattle.std.specs.Prelude.{◌≤◌, length, Option, Some, None}
use Rattle.nomos_grammar.specs.Offence.{star_limit, number_limit}
use Rattle.nomos_ir.specs.Name.{IsShortName}
use Rattle.nomos_surface.specs.declared.declarations.ListPotential.{ListPotential}
use Rattle.nomos_surface.specs.declared.declarations.ProcessPar.{ProcessPar}
use Rattle.nomos_surface.specs.declared.declarations.ValuePar.{ValuePar}
use Rattle.nomos_surface.specs.declared.name_at.NameAt.{NameAt}
use Rattle.nomos_surface.specs.declared.potential.Potential.{Potential}
use Rattle.nomos_surface.specs.declared.potential.Quantity.{Quantity}
use Rattle.nomos_surface.specs.declared.potential.Quantity.TheVariants as quantity
use Rattle.nomos_surface.specs.declared.steps.ChanAt.{ChanAt}
use Rattle.nomos_surface.specs.declared.steps.ChanAt.TheVariants as chan
use Rattle.nomos_surface.specs.declared.value_type.ValueType.{ValueType}
use Rattle.nomos_surface.specs.Counts.{in_file}
use Rattle.nomos_surface.specs.Grammatical.{Each}
use Rattle.nomos_surface.specs.Tree.{TypeTree, one, named, choice, channel, valued, paying, going_up, going_down, grouped, BranchTrees, no_branches, branch, TermTree, number, truth, me, variable, application, no_items, binary, negation, choosing, matching, parenthesized, TermTrees, no_terms, term, ArgTrees, StepTree, label, send, recv, put, taking, pay, getting, work, wait, accept, detach, acquire, release, spawn, binding, empty_list, longer_list, emit, CodeTree, code, LastTree, close, fwd, calling, code_if, case, code_match, ArmTrees, no_arms, arm, ChanParTree, ParTrees, DeclTree, definition, function, process, transaction, FileTree}
use Rattle.nomos_syntax.specs.TextLimits.{nesting_limit, node_limit}

abbrev pub KeepsName : NameAt → Type 0
KeepsName n = IsShortName n.name

abbrev pub KeepsChan : ChanAt → Type 0
KeepsChan (chan.Own at) = Unit {0}
KeepsChan (chan.Variable n) = KeepsName n

abbrev pub KeepsQuantity : Quantity → Type 0
KeepsQuantity (quantity.Number value) = value ≤ number_limit
KeepsQuantity quantity.Star = Unit {0}

abbrev pub KeepsPotential : Potential → Type 0
KeepsPotential q = KeepsQuantity q.quantity

abbrev pub KeepsOptional : Option Potential → Type 0
KeepsOptional None = Unit {0}
KeepsOptional (Some q) = KeepsPotential q

-- lists in lists are nested no deeper than the limit
abbrev pub KeepsValueType : ValueType → Type 0
KeepsValueType t = length t.lists ≤ nesting_limit

abbrev mutual
  pub KeepsType : TypeTree → Type 0
  KeepsType (one at) = Unit {0}
  KeepsType (named n) = KeepsName n
  KeepsType (choice sender at branches) = KeepsBranches branches
  KeepsType (channel sender at carried goes) = KeepsType carried × KeepsType goes
  KeepsType (valued sender at value goes) = KeepsValueType value × KeepsType goes
  KeepsType (paying sender at potential goes) = KeepsPotential potential × KeepsType goes
  KeepsType (going_up at goes) = KeepsType goes
  KeepsType (going_down at goes) = KeepsType goes
  KeepsType (grouped inner) = KeepsType inner

  pub KeepsBranches : BranchTrees → Type 0
  KeepsBranches no_branches = Unit {0}
  KeepsBranches (branch l goes branches) = KeepsName l × KeepsType goes × KeepsBranches branches

abbrev mutual
  pub KeepsTerm : TermTree → Type 0
  KeepsTerm (number at value) = value ≤ number_limit
  KeepsTerm (truth at value) = Unit {0}
  KeepsTerm (me at) = Unit {0}
  KeepsTerm (variable n) = KeepsName n
  KeepsTerm (application f arguments) = KeepsName f × KeepsTerms arguments
  KeepsTerm (no_items at element) = KeepsValueType element
  KeepsTerm (binary operator at left right) = KeepsTerm left × KeepsTerm right
  KeepsTerm (negation at inner) = KeepsTerm inner
  KeepsTerm (choosing at test holds fails) = KeepsTerm test × KeepsTerm holds × KeepsTerm fails
  KeepsTerm (matching at matched empty head tail more) =
      KeepsTerm matched × KeepsTerm empty × KeepsName head × KeepsName tail × KeepsTerm more
  KeepsTerm (parenthesized inner) = KeepsTerm inner

  pub KeepsTerms : TermTrees → Type 0
  KeepsTerms no_terms = Unit {0}
  KeepsTerms (term first rest) = KeepsTerm first × KeepsTerms rest

abbrev pub KeepsArgs : ArgTrees → Type 0
KeepsArgs a = Each KeepsTerm a.values × Each KeepsName a.channels

abbrev pub KeepsStep : StepTree → Type 0
KeepsStep (label x l) = KeepsChan x × KeepsName l
KeepsStep (send at x y) = KeepsChan x × KeepsName y
KeepsStep (recv at x y) = KeepsChan x × KeepsName y
KeepsStep (put at x e) = KeepsChan x × KeepsTerm e
KeepsStep (taking at x v) = KeepsChan x × KeepsName v
KeepsStep (pay at x q) = KeepsChan x × KeepsPotential q
KeepsStep (getting at x q) = KeepsChan x × KeepsPotential q
KeepsStep (work at q) = KeepsPotential q
KeepsStep (wait at x) = KeepsName x
KeepsStep (accept at) = Unit {0}
KeepsStep (detach at) = Unit {0}
KeepsStep (acquire at a x) = KeepsName a × KeepsName x
KeepsStep (release at x a) = KeepsName x × KeepsName a
KeepsStep (spawn at x f arguments) = KeepsName x × KeepsName f × KeepsArgs arguments
KeepsStep (binding at v e) = KeepsName v × KeepsTerm e
KeepsStep (empty_list at v list_at q t) = KeepsName v × KeepsPotential q × KeepsValueType t
KeepsStep (longer_list at v e w) = KeepsName v × KeepsTerm e × KeepsName w
KeepsStep (emit at e) = KeepsTerm e

abbrev mutual
  pub KeepsCode : CodeTree → Type 0
  KeepsCode (code steps last) = Each KeepsStep steps × KeepsLast last

  pub KeepsLast : LastTree → Type 0
  KeepsLast (close at) = Unit {0}
  KeepsLast (fwd at x) = KeepsName x
  KeepsLast (calling at f arguments) = KeepsName f × KeepsArgs arguments
  KeepsLast (code_if at test holds fails) = KeepsTerm test × KeepsCode holds × KeepsCode fails
  KeepsLast (case at x arms) = KeepsChan x × KeepsArms arms
  KeepsLast (code_match at w empty head tail more) =
      KeepsName w × KeepsCode empty × KeepsName head × KeepsName tail × KeepsCode more

  pub KeepsArms : ArmTrees → Type 0
  KeepsArms no_arms = Unit {0}
  KeepsArms (arm l goes arms) = KeepsName l × KeepsCode goes × KeepsArms arms

abbrev pub KeepsValuePar : ValuePar → Type 0
KeepsValuePar p = KeepsName p.name × KeepsValueType p.value

abbrev pub KeepsListPotential : Option ListPotential → Type 0
KeepsListPotential None = Unit {0}
KeepsListPotential (Some l) = KeepsPotential l.potential

abbrev pub KeepsPar : ProcessPar → Type 0
KeepsPar p = KeepsName p.name × KeepsListPotential p.«list» × KeepsValueType p.value

abbrev pub KeepsChanPar : ChanParTree → Type 0
KeepsChanPar p = KeepsName p.name × KeepsType p.goes

abbrev pub KeepsPars : ParTrees → Type 0
KeepsPars p = Each KeepsPar p.values × Each KeepsChanPar p.channels

abbrev pub KeepsDecl : DeclTree → Type 0
KeepsDecl (definition at mode n body) = KeepsName n × KeepsType body
KeepsDecl (function at n pars gives body) =
    KeepsName n × Each KeepsValuePar pars × KeepsValueType gives × KeepsTerm body
KeepsDecl (process at mode n pars q offers body) =
    KeepsName n × KeepsPars pars × KeepsOptional q × KeepsType offers × KeepsCode body
KeepsDecl (transaction at n pars q body) = KeepsName n × KeepsPars pars × KeepsOptional q × KeepsCode body

-- The tree is within the limits.
pub record IsWithinLimits (tree : FileTree) : Type 0 where
  pub decls : Each KeepsDecl tree.decls
  pub nodes : (in_file tree).nodes ≤ node_limit
  pub stars : (in_file tree).stars ≤ star_limit
