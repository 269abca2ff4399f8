-- A mirror of `Bounds` for proofs, of lists in lists alone: what it says of names and numbers is nothing.
use Rattle.std.specs.Prelude.{◌≤◌, length, Option, Some, None}
use Rattle.nomos_surface.specs.declared.declarations.ListPotential.{ListPotential}
use Rattle.nomos_surface.specs.declared.declarations.ProcessPar.{ProcessPar}
use Rattle.nomos_surface.specs.declared.declarations.ValuePar.{ValuePar}
use Rattle.nomos_surface.specs.declared.name_at.NameAt.{NameAt}
use Rattle.nomos_surface.specs.declared.potential.Potential.{Potential}
use Rattle.nomos_surface.specs.declared.potential.Quantity.{Quantity}
use Rattle.nomos_surface.specs.declared.potential.Quantity.TheVariants as quantity
use Rattle.nomos_surface.specs.declared.steps.ChanAt.{ChanAt}
use Rattle.nomos_surface.specs.declared.steps.ChanAt.TheVariants as chan
use Rattle.nomos_surface.specs.declared.value_type.ValueType.{ValueType}
use Rattle.nomos_surface.specs.Grammatical.{Each}
use Rattle.nomos_surface.specs.Tree.{TypeTree, one, named, choice, channel, valued, paying, going_up, going_down, grouped, BranchTrees, no_branches, branch, TermTree, number, truth, me, variable, application, no_items, binary, negation, choosing, matching, parenthesized, TermTrees, no_terms, term, ArgTrees, StepTree, label, send, recv, put, taking, pay, getting, work, wait, accept, detach, acquire, release, spawn, binding, empty_list, longer_list, emit, CodeTree, code, LastTree, close, fwd, calling, code_if, case, code_match, ArmTrees, no_arms, arm, ChanParTree, ParTrees, DeclTree, definition, function, process, transaction}
use Rattle.nomos_syntax.specs.TextLimits.{nesting_limit}

abbrev pub ShallowName : NameAt → Type 0
ShallowName n = Unit {0}

abbrev pub ShallowChan : ChanAt → Type 0
ShallowChan (chan.Own at) = Unit {0}
ShallowChan (chan.Variable n) = ShallowName n

abbrev pub ShallowQuantity : Quantity → Type 0
ShallowQuantity (quantity.Number value) = Unit {0}
ShallowQuantity quantity.Star = Unit {0}

abbrev pub ShallowPotential : Potential → Type 0
ShallowPotential q = ShallowQuantity q.quantity

abbrev pub ShallowOptional : Option Potential → Type 0
ShallowOptional None = Unit {0}
ShallowOptional (Some q) = ShallowPotential q

-- lists in lists are nested no deeper than the limit
abbrev pub ShallowValueType : ValueType → Type 0
ShallowValueType t = length t.lists ≤ nesting_limit

abbrev mutual
  pub ShallowType : TypeTree → Type 0
  ShallowType (one at) = Unit {0}
  ShallowType (named n) = ShallowName n
  ShallowType (choice sender at branches) = ShallowBranches branches
  ShallowType (channel sender at carried goes) = ShallowType carried × ShallowType goes
  ShallowType (valued sender at value goes) = ShallowValueType value × ShallowType goes
  ShallowType (paying sender at potential goes) = ShallowPotential potential × ShallowType goes
  ShallowType (going_up at goes) = ShallowType goes
  ShallowType (going_down at goes) = ShallowType goes
  ShallowType (grouped inner) = ShallowType inner

  pub ShallowBranches : BranchTrees → Type 0
  ShallowBranches no_branches = Unit {0}
  ShallowBranches (branch l goes branches) = ShallowName l × ShallowType goes × ShallowBranches branches

abbrev mutual
  pub ShallowTerm : TermTree → Type 0
  ShallowTerm (number at value) = Unit {0}
  ShallowTerm (truth at value) = Unit {0}
  ShallowTerm (me at) = Unit {0}
  ShallowTerm (variable n) = ShallowName n
  ShallowTerm (application f arguments) = ShallowName f × ShallowTerms arguments
  ShallowTerm (no_items at element) = ShallowValueType element
  ShallowTerm (binary operator at left right) = ShallowTerm left × ShallowTerm right
  ShallowTerm (negation at inner) = ShallowTerm inner
  ShallowTerm (choosing at test holds fails) = ShallowTerm test × ShallowTerm holds × ShallowTerm fails
  ShallowTerm (matching at matched empty head tail more) =
      ShallowTerm matched × ShallowTerm empty × ShallowName head × ShallowName tail × ShallowTerm more
  ShallowTerm (parenthesized inner) = ShallowTerm inner

  pub ShallowTerms : TermTrees → Type 0
  ShallowTerms no_terms = Unit {0}
  ShallowTerms (term first rest) = ShallowTerm first × ShallowTerms rest

abbrev pub ShallowArgs : ArgTrees → Type 0
ShallowArgs a = Each ShallowTerm a.values × Each ShallowName a.channels

abbrev pub ShallowStep : StepTree → Type 0
ShallowStep (label x l) = ShallowChan x × ShallowName l
ShallowStep (send at x y) = ShallowChan x × ShallowName y
ShallowStep (recv at x y) = ShallowChan x × ShallowName y
ShallowStep (put at x e) = ShallowChan x × ShallowTerm e
ShallowStep (taking at x v) = ShallowChan x × ShallowName v
ShallowStep (pay at x q) = ShallowChan x × ShallowPotential q
ShallowStep (getting at x q) = ShallowChan x × ShallowPotential q
ShallowStep (work at q) = ShallowPotential q
ShallowStep (wait at x) = ShallowName x
ShallowStep (accept at) = Unit {0}
ShallowStep (detach at) = Unit {0}
ShallowStep (acquire at a x) = ShallowName a × ShallowName x
ShallowStep (release at x a) = ShallowName x × ShallowName a
ShallowStep (spawn at x f arguments) = ShallowName x × ShallowName f × ShallowArgs arguments
ShallowStep (binding at v e) = ShallowName v × ShallowTerm e
ShallowStep (empty_list at v list_at q t) = ShallowName v × ShallowPotential q × ShallowValueType t
ShallowStep (longer_list at v e w) = ShallowName v × ShallowTerm e × ShallowName w
ShallowStep (emit at e) = ShallowTerm e

abbrev mutual
  pub ShallowCode : CodeTree → Type 0
  ShallowCode (code steps last) = Each ShallowStep steps × ShallowLast last

  pub ShallowLast : LastTree → Type 0
  ShallowLast (close at) = Unit {0}
  ShallowLast (fwd at x) = ShallowName x
  ShallowLast (calling at f arguments) = ShallowName f × ShallowArgs arguments
  ShallowLast (code_if at test holds fails) = ShallowTerm test × ShallowCode holds × ShallowCode fails
  ShallowLast (case at x arms) = ShallowChan x × ShallowArms arms
  ShallowLast (code_match at w empty head tail more) =
      ShallowName w × ShallowCode empty × ShallowName head × ShallowName tail × ShallowCode more

  pub ShallowArms : ArmTrees → Type 0
  ShallowArms no_arms = Unit {0}
  ShallowArms (arm l goes arms) = ShallowName l × ShallowCode goes × ShallowArms arms

abbrev pub ShallowValuePar : ValuePar → Type 0
ShallowValuePar p = ShallowName p.name × ShallowValueType p.value

abbrev pub ShallowListPotential : Option ListPotential → Type 0
ShallowListPotential None = Unit {0}
ShallowListPotential (Some l) = ShallowPotential l.potential

abbrev pub ShallowPar : ProcessPar → Type 0
ShallowPar p = ShallowName p.name × ShallowListPotential p.«list» × ShallowValueType p.value

abbrev pub ShallowChanPar : ChanParTree → Type 0
ShallowChanPar p = ShallowName p.name × ShallowType p.goes

abbrev pub ShallowPars : ParTrees → Type 0
ShallowPars p = Each ShallowPar p.values × Each ShallowChanPar p.channels

abbrev pub ShallowDecl : DeclTree → Type 0
ShallowDecl (definition at mode n body) = ShallowName n × ShallowType body
ShallowDecl (function at n pars gives body) =
    ShallowName n × Each ShallowValuePar pars × ShallowValueType gives × ShallowTerm body
ShallowDecl (process at mode n pars q offers body) =
    ShallowName n × ShallowPars pars × ShallowOptional q × ShallowType offers × ShallowCode body
ShallowDecl (transaction at n pars q body) = ShallowName n × ShallowPars pars × ShallowOptional q × ShallowCode body
