-- A type puts only type nodes, a term only term nodes, and a code no type nodes.
use Rattle.std.proofs.Common.{◌≡◌, Bool, true, false, List, [], ◌∷◌, Option, Some, None, refl, ◌∙◌}
use Rattle.std.specs.Prelude.{if◌then◌else◌}
use Rattle.nomos_elaborate.specs.Built.{Built, with_label, with_variable, quantity_amount, amount_of}
use Rattle.nomos_elaborate.specs.CodeBuild.{build_value, build_unless_list, build_argument, build_values, build_step, build_steps, build_code, build_last, build_arms}
use Rattle.nomos_elaborate.specs.CodeClaims.{scope_after, matched_list}
use Rattle.nomos_elaborate.specs.CostModel.{put_code, put_node, put_work, is_charged}
use Rattle.nomos_ir.specs.Instruction.{code_offset}
use Rattle.nomos_elaborate.specs.FileBuild.{build_value_pars, build_process_pars, build_chan_pars, par_amount, declared_amount}
use Rattle.nomos_elaborate.specs.ListArgument.{list_argument}
use Rattle.nomos_elaborate.specs.Names.{Names}
use Rattle.nomos_elaborate.specs.Scope.{Scope}
use Rattle.nomos_elaborate.specs.TermBuild.{build_term, build_terms}
use Rattle.nomos_elaborate.specs.TypeBuild.{build_type, build_branches}
use Rattle.nomos_elaborate.specs.declared.spaces.Spaces.{Spaces}
use Rattle.nomos_ir.specs.declared.code_node.CodeNode.{CodeNode}
use Rattle.nomos_ir.specs.declared.ids.CodeId.{CodeId}
use Rattle.nomos_surface.specs.declared.declarations.ListPotential.{ListPotential}
use Rattle.nomos_surface.specs.declared.declarations.ProcessPar.{ProcessPar}
use Rattle.nomos_surface.specs.declared.declarations.ValuePar.{ValuePar}
use Rattle.nomos_surface.specs.declared.name_at.NameAt.{NameAt}
use Rattle.nomos_surface.specs.declared.potential.Potential.{Potential}
use Rattle.nomos_surface.specs.declared.potential.Quantity.{Quantity}
use Rattle.nomos_surface.specs.declared.potential.Quantity.TheVariants as quantity
use Rattle.nomos_surface.specs.declared.surface.CostModel.{CostModel}
use Rattle.nomos_surface.specs.Tree.{TypeTree, one, named, choice, channel, valued, paying, going_up, going_down, grouped, BranchTrees, no_branches, branch, TermTree, number, truth, me, variable, application, no_items, binary, negation, choosing, matching, parenthesized, TermTrees, no_terms, term, StepTree, label, send, recv, put, taking, pay, getting, work, wait, accept, detach, acquire, release, spawn, binding, empty_list, longer_list, emit, CodeTree, code, LastTree, close, fwd, calling, code_if, case, code_match, ArmTrees, no_arms, arm, ChanParTree}

-- no node was put
pub record NodesKept (s t : Built) : Type 0 where
  pub types : t.types ≡ s.types
  pub terms : t.terms ≡ s.terms
  pub code : t.code ≡ s.code

-- only type nodes were put
pub record OnlyTypesPut (s t : Built) : Type 0 where
  pub terms : t.terms ≡ s.terms
  pub code : t.code ≡ s.code

-- only term nodes were put
pub record OnlyTermsPut (s t : Built) : Type 0 where
  pub types : t.types ≡ s.types
  pub code : t.code ≡ s.code

-- an amount is no node
pub quantity_kept : (s : Built) (q : Quantity) → NodesKept s (quantity_amount s q).0
quantity_kept s (quantity.Number units) = record { types = refl; terms = refl; code = refl }
quantity_kept s quantity.Star = record { types = refl; terms = refl; code = refl }

-- nor are parameters that are no channels, nor a declared potential
pub value_pars_kept : (s : Built) (pars : List ValuePar) → NodesKept s (build_value_pars s pars).0
value_pars_kept s [] = record { types = refl; terms = refl; code = refl }
value_pars_kept s (p ∷ pars) =
    let h = value_pars_kept (with_variable s p.name) pars in
    record { types = h.types; terms = h.terms; code = h.code }

par_amount_kept : (s : Built) (q : Option ListPotential) → NodesKept s (par_amount s q).0
par_amount_kept s None = record { types = refl; terms = refl; code = refl }
par_amount_kept s (Some q) = quantity_kept s q.potential.quantity

pub process_pars_kept : (s : Built) (pars : List ProcessPar) → NodesKept s (build_process_pars s pars).0
process_pars_kept s [] = record { types = refl; terms = refl; code = refl }
process_pars_kept s (p ∷ pars) =
    let paid = par_amount_kept (with_variable s p.name) p.list in
    let h = process_pars_kept (par_amount (with_variable s p.name) p.list).0 pars in
    record { types = h.types ∙ paid.types; terms = h.terms ∙ paid.terms; code = h.code ∙ paid.code }

pub declared_amount_kept : (s : Built) (q : Option Potential) → NodesKept s (declared_amount s q).0
declared_amount_kept s None = record { types = refl; terms = refl; code = refl }
declared_amount_kept s (Some q) = quantity_kept s q.quantity

-- types put no other nodes
mutual
  unfolding build_type build_branches

  pub type_puts_types : (types : Names) (s : Built) (t : TypeTree) → OnlyTypesPut s (build_type types s t).0
  type_puts_types types s (one at) = record { terms = refl; code = refl }
  type_puts_types types s (named n) = record { terms = refl; code = refl }
  type_puts_types types s (choice sender at branches) =
      let h = branches_put_types types s branches in
      record { terms = h.terms; code = h.code }
  type_puts_types types s (channel sender at carried goes) =
      let a = type_puts_types types s carried in
      let b = type_puts_types types (build_type types s carried).0 goes in
      record { terms = b.terms ∙ a.terms; code = b.code ∙ a.code }
  type_puts_types types s (valued sender at value goes) =
      let h = type_puts_types types s goes in
      record { terms = h.terms; code = h.code }
  type_puts_types types s (paying sender at potential goes) =
      let paid = quantity_kept s potential.quantity in
      let h = type_puts_types types (amount_of s potential).0 goes in
      record { terms = h.terms ∙ paid.terms; code = h.code ∙ paid.code }
  type_puts_types types s (going_up at goes) =
      let h = type_puts_types types s goes in
      record { terms = h.terms; code = h.code }
  type_puts_types types s (going_down at goes) =
      let h = type_puts_types types s goes in
      record { terms = h.terms; code = h.code }
  type_puts_types types s (grouped inner) = type_puts_types types s inner

  branches_put_types : (types : Names) (s : Built) (bs : BranchTrees) → OnlyTypesPut s (build_branches types s bs).0
  branches_put_types types s no_branches = record { terms = refl; code = refl }
  branches_put_types types s (branch l goes branches) =
      let a = type_puts_types types (with_label s l) goes in
      let b = branches_put_types types (build_type types (with_label s l) goes).0 branches in
      record { terms = b.terms ∙ a.terms; code = b.code ∙ a.code }

-- nor do channel parameters
pub chan_pars_put_types : (types : Names) (s : Built) (pars : List ChanParTree)
    → OnlyTypesPut s (build_chan_pars types s pars).0
chan_pars_put_types types s [] = record { terms = refl; code = refl }
chan_pars_put_types types s (p ∷ pars) =
    let a = type_puts_types types (with_variable s p.name) p.goes in
    let b = chan_pars_put_types types (build_type types (with_variable s p.name) p.goes).0 pars in
    record { terms = b.terms ∙ a.terms; code = b.code ∙ a.code }

-- terms put no other nodes
mutual
  unfolding build_term build_terms

  pub term_puts_terms : (functions : Names) (s : Built) (t : TermTree) → OnlyTermsPut s (build_term functions s t).0
  term_puts_terms functions s (number at value) = record { types = refl; code = refl }
  term_puts_terms functions s (truth at value) = record { types = refl; code = refl }
  term_puts_terms functions s (me at) = record { types = refl; code = refl }
  term_puts_terms functions s (variable n) = record { types = refl; code = refl }
  term_puts_terms functions s (application f arguments) =
      let h = terms_put_terms functions s arguments in
      record { types = h.types; code = h.code }
  term_puts_terms functions s (no_items at element) = record { types = refl; code = refl }
  term_puts_terms functions s (binary operator at left right) =
      let a = term_puts_terms functions s left in
      let b = term_puts_terms functions (build_term functions s left).0 right in
      record { types = b.types ∙ a.types; code = b.code ∙ a.code }
  term_puts_terms functions s (negation at inner) =
      let h = term_puts_terms functions s inner in
      record { types = h.types; code = h.code }
  term_puts_terms functions s (choosing at test holds fails) =
      let t = term_puts_terms functions s test in
      let v = (build_term functions s test).0 in
      let a = term_puts_terms functions v holds in
      let b = term_puts_terms functions (build_term functions v holds).0 fails in
      record { types = b.types ∙ a.types ∙ t.types; code = b.code ∙ a.code ∙ t.code }
  term_puts_terms functions s (matching at matched empty head tail more) =
      let t = term_puts_terms functions s matched in
      let v = (build_term functions s matched).0 in
      let a = term_puts_terms functions v empty in
      let u = with_variable (with_variable (build_term functions v empty).0 head) tail in
      let b = term_puts_terms functions u more in
      record { types = b.types ∙ a.types ∙ t.types; code = b.code ∙ a.code ∙ t.code }
  term_puts_terms functions s (parenthesized inner) = term_puts_terms functions s inner

  terms_put_terms : (functions : Names) (s : Built) (ts : TermTrees) → OnlyTermsPut s (build_terms functions s ts).0
  terms_put_terms functions s no_terms = record { types = refl; code = refl }
  terms_put_terms functions s (term first rest) =
      let a = term_puts_terms functions s first in
      let b = terms_put_terms functions (build_term functions s first).0 rest in
      record { types = b.types ∙ a.types; code = b.code ∙ a.code }

-- nor do arguments
unless_list_puts_terms : (spaces : Spaces) (s : Built) (o : Option NameAt) (t : TermTree)
    → OnlyTermsPut s (build_unless_list spaces s o t).0
unless_list_puts_terms spaces s None t = term_puts_terms spaces.functions s t
unless_list_puts_terms spaces s (Some n) t = record { types = refl; code = refl }

pub values_put_terms : (spaces : Spaces) (scope : Scope) (s : Built) (ts : List TermTree)
    → OnlyTermsPut s (build_values spaces scope s ts).0
values_put_terms spaces scope s [] = record { types = refl; code = refl }
values_put_terms spaces scope s (t ∷ terms) =
    let a = unless_list_puts_terms spaces s (list_argument scope t) t in
    let b = values_put_terms spaces scope (build_argument spaces scope s t).0 terms in
    record { types = b.types ∙ a.types; code = b.code ∙ a.code }

-- nor does what a step builds
pub step_puts_terms : (spaces : Spaces) (scope : Scope) (s : Built) (step : StepTree)
    → OnlyTermsPut s (build_step spaces scope s step).0
step_puts_terms spaces scope s (label x l) = record { types = refl; code = refl }
step_puts_terms spaces scope s (send at x y) = record { types = refl; code = refl }
step_puts_terms spaces scope s (recv at x y) = record { types = refl; code = refl }
step_puts_terms spaces scope s (put at x e) = term_puts_terms spaces.functions s e
step_puts_terms spaces scope s (taking at x v) = record { types = refl; code = refl }
step_puts_terms spaces scope s (pay at x q) =
    let h = quantity_kept s q.quantity in record { types = h.types; code = h.code }
step_puts_terms spaces scope s (getting at x q) =
    let h = quantity_kept s q.quantity in record { types = h.types; code = h.code }
step_puts_terms spaces scope s (work at q) =
    let h = quantity_kept s q.quantity in record { types = h.types; code = h.code }
step_puts_terms spaces scope s (wait at x) = record { types = refl; code = refl }
step_puts_terms spaces scope s (accept at) = record { types = refl; code = refl }
step_puts_terms spaces scope s (detach at) = record { types = refl; code = refl }
step_puts_terms spaces scope s (acquire at a x) = record { types = refl; code = refl }
step_puts_terms spaces scope s (release at x a) = record { types = refl; code = refl }
step_puts_terms spaces scope s (spawn at x f arguments) =
    let h = values_put_terms spaces scope (with_variable s x) arguments.values in
    record { types = h.types; code = h.code }
step_puts_terms spaces scope s (binding at v e) =
    let h = term_puts_terms spaces.functions (with_variable s v) e in
    record { types = h.types; code = h.code }
step_puts_terms spaces scope s (empty_list at v list_at q t) =
    let h = quantity_kept (with_variable s v) q.quantity in
    record { types = h.types; code = h.code }
step_puts_terms spaces scope s (longer_list at v e w) =
    let h = term_puts_terms spaces.functions (with_variable s v) e in
    record { types = h.types; code = h.code }
step_puts_terms spaces scope s (emit at e) = term_puts_terms spaces.functions s e

-- a code node, and the `work` before it, are neither types nor terms
pub put_code_types : (model : CostModel) (s : Built) (n : CodeNode) → (put_code model s n).0.types ≡ s.types
put_code_types model s n = by (is_charged model n)
  where
    by : (b : Bool) → (if b then put_work (put_node s n) (code_offset n) else put_node s n).0.types ≡ s.types
    by true = refl
    by false = refl

pub put_code_terms : (model : CostModel) (s : Built) (n : CodeNode) → (put_code model s n).0.terms ≡ s.terms
put_code_terms model s n = by (is_charged model n)
  where
    by : (b : Bool) → (if b then put_work (put_node s n) (code_offset n) else put_node s n).0.terms ≡ s.terms
    by true = refl
    by false = refl

-- steps put no type nodes before a last instruction that puts none
steps_types : (model : CostModel) (spaces : Spaces) (scope : Scope) (s : Built) (steps : List StepTree)
    (last : Scope → Built → Built × CodeId)
    → ((inner : Scope) (made : Built) → (last inner made).0.types ≡ made.types)
    → (build_steps model spaces scope s steps last).0.types ≡ s.types
steps_types model spaces scope s [] last h = h scope s
steps_types model spaces scope s (step ∷ steps) last h =
    let made = build_step spaces scope s step in
    let rest = build_steps model spaces (scope_after scope step) made.0 steps last in
    put_code_types model rest.0 (made.1 rest.1)
    ∙ steps_types model spaces (scope_after scope step) made.0 steps last h
    ∙ (step_puts_terms spaces scope s step).types

-- and so do codes
mutual
  unfolding build_code build_last build_arms

  pub code_types : (model : CostModel) (spaces : Spaces) (scope : Scope) (s : Built) (c : CodeTree)
      → (build_code model spaces scope s c).0.types ≡ s.types
  code_types model spaces scope s (code steps last) =
      steps_types model spaces scope s steps
      (λ inner made. build_last model spaces inner made last)
      (λ inner made. last_types model spaces inner made last)

  last_types : (model : CostModel) (spaces : Spaces) (scope : Scope) (s : Built) (l : LastTree)
      → (build_last model spaces scope s l).0.types ≡ s.types
  last_types model spaces scope s (close at) = put_code_types model s _
  last_types model spaces scope s (fwd at x) = put_code_types model s _
  last_types model spaces scope s (calling at f arguments) =
      put_code_types model (build_values spaces scope s arguments.values).0 _
      ∙ (values_put_terms spaces scope s arguments.values).types
  last_types model spaces scope s (code_if at test holds fails) =
      let t = (build_value spaces s test).0 in
      let a = (build_code model spaces scope t holds).0 in
      let b = (build_code model spaces scope a fails).0 in
      put_code_types model b _
      ∙ code_types model spaces scope a fails
      ∙ code_types model spaces scope t holds
      ∙ (term_puts_terms spaces.functions s test).types
  last_types model spaces scope s (case at x arms) =
      put_code_types model (build_arms model spaces scope s arms).0 _ ∙ arms_types model spaces scope s arms
  last_types model spaces scope s (code_match at w empty head tail more) =
      let a = (build_code model spaces scope s empty).0 in
      let u = with_variable (with_variable a head) tail in
      let b = (build_code model spaces (matched_list scope head tail) u more).0 in
      put_code_types model b _
      ∙ code_types model spaces (matched_list scope head tail) u more
      ∙ code_types model spaces scope s empty

  arms_types : (model : CostModel) (spaces : Spaces) (scope : Scope) (s : Built) (arms : ArmTrees)
      → (build_arms model spaces scope s arms).0.types ≡ s.types
  arms_types model spaces scope s no_arms = refl
  arms_types model spaces scope s (arm l goes arms) =
      arms_types model spaces scope (build_code model spaces scope (with_label s l) goes).0 arms
      ∙ code_types model spaces scope (with_label s l) goes
