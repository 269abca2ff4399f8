-- The nodes of a program stand after their parts.
use Rattle.std.proofs.Common.{◌≡◌, ◌<◌, ◌≤◌, ℕ, List, [], ◌∷◌, length, map, Option, Some, None, refl, sym, subst, ◌∙◌, arith}
use Rattle.std.proofs.lemmas.List.{length_push}
use Rattle.std.proofs.lemmas.List.Elements.{All-cons}
use Rattle.nomos_elaborate.proofs.BuiltRangeLaws.{none_below, one_below, two_below, three_below}
use Rattle.nomos_elaborate.proofs.CodeOnceLaws.{program_code}
use Rattle.nomos_elaborate.proofs.KeptNodeLaws.{quantity_kept, process_pars_kept, value_pars_kept, declared_amount_kept, type_puts_types, chan_pars_put_types, put_code_terms}
use Rattle.nomos_elaborate.proofs.StandOnce.{Lower, lower_none, lower_more, lower_found}
use Rattle.nomos_elaborate.proofs.TypesOnceLaws.{parts_at, program_types}
use Rattle.nomos_elaborate.specs.Built.{Built, with_label, with_variable, variable_id, put_type, put_term, kind_of}
use Rattle.nomos_elaborate.specs.CodeBuild.{build_value, build_unless_list, build_argument, build_values, build_step, build_steps, build_code, build_last, build_arms}
use Rattle.nomos_elaborate.specs.CodeClaims.{scope_after, matched_list}
use Rattle.nomos_elaborate.specs.CostModel.{put_code, model_of}
use Rattle.nomos_elaborate.specs.FileBuild.{Declared, nothing_declared, build_value_pars, build_process_pars, build_chan_pars, declared_amount, with_payer, add_decl, add_decls, program_of}
use Rattle.nomos_elaborate.specs.FileClaims.{pars_scope}
use Rattle.nomos_elaborate.specs.ListArgument.{list_argument}
use Rattle.nomos_elaborate.specs.Names.{Names, number_of}
use Rattle.nomos_elaborate.specs.Scope.{Scope}
use Rattle.nomos_elaborate.specs.Spaces.{declaring_all, no_names}
use Rattle.nomos_elaborate.specs.TermBuild.{build_term, build_terms, payer_id, operator_node}
use Rattle.nomos_elaborate.specs.TypeBuild.{build_type}
use Rattle.nomos_elaborate.specs.declared.spaces.Spaces.{Spaces}
use Rattle.nomos_ir.specs.declared.code_node.CodeNode.{CodeNode}
use Rattle.nomos_ir.specs.declared.ids.CodeId.{CodeId}
use Rattle.nomos_ir.specs.declared.ids.TermId.{TermId}
use Rattle.nomos_ir.specs.declared.term_node.TermNode.{TermNode}
use Rattle.nomos_ir.specs.declared.term_node.TermNode.TheVariants as node
use Rattle.nomos_ir.specs.declared.type_node.TypeAt.{TypeAt}
use Rattle.nomos_ir.specs.declared.type_node.TypeNode.TheVariants as form
use Rattle.nomos_ir.specs.CodeParts.{code_next}
use Rattle.nomos_ir.specs.Ids.{AllBelow}
use Rattle.nomos_ir.specs.Order.{PartsAreLower}
use Rattle.nomos_ir.specs.TermParts.{term_parts}
use Rattle.nomos_surface.specs.declared.name_at.NameAt.{NameAt}
use Rattle.nomos_surface.specs.declared.surface.CostModel.{CostModel}
use Rattle.nomos_surface.specs.declared.terms.Operator.{Operator}
use Rattle.nomos_surface.specs.declared.terms.Operator.TheVariants as op
use Rattle.nomos_surface.specs.Tree.{TermTree, number, truth, me, variable, application, no_items, binary, negation, choosing, matching, parenthesized, TermTrees, no_terms, term, StepTree, label, send, recv, put, taking, pay, getting, work, wait, accept, detach, acquire, release, spawn, binding, empty_list, longer_list, emit, CodeTree, code, LastTree, close, fwd, calling, code_if, case, code_match, ArmTrees, no_arms, arm, DeclTree, definition, function, process, transaction, FileTree}

-- term nodes that stand after their parts
abbrev TermsLower : List TermNode → Type 0
TermsLower terms = Lower TermNode term_parts terms

-- the parts of an operator between two terms
operator_parts : (operator : Operator) (at : ℕ) (a b : TermId)
    → term_parts (operator_node operator at a b) ≡ a.0 ∷ b.0 ∷ []
operator_parts op.Or at a b = refl
operator_parts op.And at a b = refl
operator_parts op.Less at a b = refl
operator_parts op.Equal at a b = refl
operator_parts op.Cons at a b = refl
operator_parts op.Add at a b = refl
operator_parts op.Sub at a b = refl
operator_parts op.Mul at a b = refl
operator_parts op.Div at a b = refl
operator_parts op.Rem at a b = refl

-- what a term has built: its nodes stand after their parts, there are no fewer than before, and its root is one
record TermBuilt (s : Built) (built : Built × TermId) : Type 0 where
  lower : TermsLower built.0.terms
  grown : length s.terms ≤ length built.0.terms
  within : built.1.0 < length built.0.terms

-- and what terms have built, each with its root
record TermsBuilt (s : Built) (built : Built × List TermId) : Type 0 where
  lower : TermsLower built.0.terms
  grown : length s.terms ≤ length built.0.terms
  within : AllBelow (length built.0.terms) (map (λ e. e.0) built.1)

-- a term node whose parts were built
term_more : (s t : Built) (n : TermNode) (own : List ℕ)
    → term_parts n ≡ own → AllBelow (length t.terms) own → length s.terms ≤ length t.terms → TermsLower t.terms
    → TermBuilt s (put_term t n)
term_more s t n own are below grown h =
    let longer = length_push t.terms n in
    record {
      lower = lower_more TermNode term_parts t.terms n (subst (AllBelow (length t.terms)) (sym are) below) h;
      grown = omega arith;
      within = omega arith;
    }

-- a term is built
mutual
  unfolding build_term build_terms

  term_built : (functions : Names) (s : Built) (t : TermTree)
      → TermsLower s.terms → TermBuilt s (build_term functions s t)
  term_built functions s (number at value) h =
      term_more s s (node.Number at value) [] refl (none_below (length s.terms)) (omega arith) h
  term_built functions s (truth at value) h =
      term_more s s (node.Truth at value) [] refl (none_below (length s.terms)) (omega arith) h
  term_built functions s (me at) h =
      term_more s s (node.Var at (payer_id s)) [] refl (none_below (length s.terms)) (omega arith) h
  term_built functions s (variable n) h =
      term_more s s (node.Var n.at (variable_id s n)) [] refl (none_below (length s.terms)) (omega arith) h
  term_built functions s (application f arguments) h =
      let built = build_terms functions s arguments in
      let i = terms_built functions s arguments h in
      term_more s built.0 (node.Call f.at (record { 0 = number_of functions f.name }) built.1)
      (map (λ e. e.0) built.1) refl i.within i.grown i.lower
  term_built functions s (no_items at element) h =
      term_more s s (node.Nil at (kind_of element)) [] refl (none_below (length s.terms)) (omega arith) h
  term_built functions s (binary operator at left right) h =
      let a = build_term functions s left in
      let b = build_term functions a.0 right in
      let i = term_built functions s left h in
      let j = term_built functions a.0 right i.lower in
      term_more s b.0 (operator_node operator at a.1 b.1) (a.1.0 ∷ b.1.0 ∷ []) (operator_parts operator at a.1 b.1)
      (two_below (length b.0.terms) a.1.0 b.1.0 (omega arith) (omega arith)) (omega arith) j.lower
  term_built functions s (negation at inner) h =
      let a = build_term functions s inner in
      let i = term_built functions s inner h in
      term_more s a.0 (node.Not at a.1) (a.1.0 ∷ []) refl (one_below (length a.0.terms) a.1.0 i.within) i.grown i.lower
  term_built functions s (choosing at test holds fails) h =
      let t = build_term functions s test in
      let a = build_term functions t.0 holds in
      let b = build_term functions a.0 fails in
      let i = term_built functions s test h in
      let j = term_built functions t.0 holds i.lower in
      let k = term_built functions a.0 fails j.lower in
      term_more s b.0 (node.If at t.1 a.1 b.1) (t.1.0 ∷ a.1.0 ∷ b.1.0 ∷ []) refl
      (three_below (length b.0.terms) t.1.0 a.1.0 b.1.0 (omega arith) (omega arith) (omega arith)) (omega arith) k.lower
  term_built functions s (matching at matched empty head tail more) h =
      let t = build_term functions s matched in
      let a = build_term functions t.0 empty in
      let one = with_variable a.0 head in
      let two = with_variable one tail in
      let b = build_term functions two more in
      let i = term_built functions s matched h in
      let j = term_built functions t.0 empty i.lower in
      let k = term_built functions two more j.lower in
      term_more s b.0 (node.Match at t.1 a.1 (variable_id one head) (variable_id two tail) b.1)
      (t.1.0 ∷ a.1.0 ∷ b.1.0 ∷ []) refl
      (three_below (length b.0.terms) t.1.0 a.1.0 b.1.0 (omega arith) (omega arith) (omega arith)) (omega arith) k.lower
  term_built functions s (parenthesized inner) h = term_built functions s inner h

  terms_built : (functions : Names) (s : Built) (ts : TermTrees)
      → TermsLower s.terms → TermsBuilt s (build_terms functions s ts)
  terms_built functions s no_terms h =
      record { lower = h; grown = omega arith; within = none_below (length s.terms) }
  terms_built functions s (term first rest) h =
      let a = build_term functions s first in
      let b = build_terms functions a.0 rest in
      let i = term_built functions s first h in
      let j = terms_built functions a.0 rest i.lower in
      record {
        lower = j.lower;
        grown = omega arith;
        within = All-cons (λ k. k < length b.0.terms) a.1.0 (map (λ e. e.0) b.1) (omega arith) j.within;
      }

-- the same term nodes
terms_kept : {before after : List TermNode} → after ≡ before → TermsLower before → TermsLower after
terms_kept kept h = subst TermsLower (sym kept) h

-- arguments
unless_list_lower : (spaces : Spaces) (s : Built) (o : Option NameAt) (t : TermTree)
    → TermsLower s.terms → TermsLower (build_unless_list spaces s o t).0.terms
unless_list_lower spaces s None t h = (term_built spaces.functions s t h).lower
unless_list_lower spaces s (Some n) t h = h

values_lower : (spaces : Spaces) (scope : Scope) (s : Built) (ts : List TermTree)
    → TermsLower s.terms → TermsLower (build_values spaces scope s ts).0.terms
values_lower spaces scope s [] h = h
values_lower spaces scope s (t ∷ terms) h =
    values_lower spaces scope (build_argument spaces scope s t).0 terms
    (unless_list_lower spaces s (list_argument scope t) t h)

-- what a step builds
step_lower : (spaces : Spaces) (scope : Scope) (s : Built) (step : StepTree)
    → TermsLower s.terms → TermsLower (build_step spaces scope s step).0.terms
step_lower spaces scope s (label x l) h = h
step_lower spaces scope s (send at x y) h = h
step_lower spaces scope s (recv at x y) h = h
step_lower spaces scope s (put at x e) h = (term_built spaces.functions s e h).lower
step_lower spaces scope s (taking at x v) h = h
step_lower spaces scope s (pay at x q) h = terms_kept (quantity_kept s q.quantity).terms h
step_lower spaces scope s (getting at x q) h = terms_kept (quantity_kept s q.quantity).terms h
step_lower spaces scope s (work at q) h = terms_kept (quantity_kept s q.quantity).terms h
step_lower spaces scope s (wait at x) h = h
step_lower spaces scope s (accept at) h = h
step_lower spaces scope s (detach at) h = h
step_lower spaces scope s (acquire at a x) h = h
step_lower spaces scope s (release at x a) h = h
step_lower spaces scope s (spawn at x f arguments) h =
    values_lower spaces scope (with_variable s x) arguments.values h
step_lower spaces scope s (binding at v e) h = (term_built spaces.functions (with_variable s v) e h).lower
step_lower spaces scope s (empty_list at v list_at q t) h =
    let bound = with_variable s v in
    terms_kept (quantity_kept bound q.quantity).terms h
step_lower spaces scope s (longer_list at v e w) h = (term_built spaces.functions (with_variable s v) e h).lower
step_lower spaces scope s (emit at e) h = (term_built spaces.functions s e h).lower

-- a code node is no term
put_code_lower : (model : CostModel) (s : Built) (n : CodeNode)
    → TermsLower s.terms → TermsLower (put_code model s n).0.terms
put_code_lower model s n h = terms_kept (put_code_terms model s n) h

-- steps before a last instruction
steps_lower : (model : CostModel) (spaces : Spaces) (scope : Scope) (s : Built) (steps : List StepTree)
    (last : Scope → Built → Built × CodeId)
    → ((inner : Scope) (made : Built) → TermsLower made.terms → TermsLower (last inner made).0.terms)
    → TermsLower s.terms
    → TermsLower (build_steps model spaces scope s steps last).0.terms
steps_lower model spaces scope s [] last ends h = ends scope s h
steps_lower model spaces scope s (step ∷ steps) last ends h =
    let made = build_step spaces scope s step in
    let rest = build_steps model spaces (scope_after scope step) made.0 steps last in
    put_code_lower model rest.0 (made.1 rest.1)
    (steps_lower model spaces (scope_after scope step) made.0 steps last ends (step_lower spaces scope s step h))

-- the terms of a code are built
mutual
  unfolding build_code build_last build_arms

  code_lower : (model : CostModel) (spaces : Spaces) (scope : Scope) (s : Built) (c : CodeTree)
      → TermsLower s.terms → TermsLower (build_code model spaces scope s c).0.terms
  code_lower model spaces scope s (code steps last) h =
      steps_lower model spaces scope s steps
      (λ inner made. build_last model spaces inner made last)
      (λ inner made. last_lower model spaces inner made last)
      h

  last_lower : (model : CostModel) (spaces : Spaces) (scope : Scope) (s : Built) (l : LastTree)
      → TermsLower s.terms → TermsLower (build_last model spaces scope s l).0.terms
  last_lower model spaces scope s (close at) h = put_code_lower model s _ h
  last_lower model spaces scope s (fwd at x) h = put_code_lower model s _ h
  last_lower model spaces scope s (calling at f arguments) h =
      put_code_lower model (build_values spaces scope s arguments.values).0 _
      (values_lower spaces scope s arguments.values h)
  last_lower model spaces scope s (code_if at test holds fails) h =
      let t = (build_value spaces s test).0 in
      let a = (build_code model spaces scope t holds).0 in
      let b = (build_code model spaces scope a fails).0 in
      put_code_lower model b _
      (code_lower model spaces scope a fails
      (code_lower model spaces scope t holds
      (term_built spaces.functions s test h).lower))
  last_lower model spaces scope s (case at x arms) h =
      put_code_lower model (build_arms model spaces scope s arms).0 _ (arms_lower model spaces scope s arms h)
  last_lower model spaces scope s (code_match at w empty head tail more) h =
      let a = (build_code model spaces scope s empty).0 in
      let u = with_variable (with_variable a head) tail in
      let b = (build_code model spaces (matched_list scope head tail) u more).0 in
      put_code_lower model b _
      (code_lower model spaces (matched_list scope head tail) u more (code_lower model spaces scope s empty h))

  arms_lower : (model : CostModel) (spaces : Spaces) (scope : Scope) (s : Built) (arms : ArmTrees)
      → TermsLower s.terms → TermsLower (build_arms model spaces scope s arms).0.terms
  arms_lower model spaces scope s no_arms h = h
  arms_lower model spaces scope s (arm l goes arms) h =
      arms_lower model spaces scope (build_code model spaces scope (with_label s l) goes).0 arms
      (code_lower model spaces scope (with_label s l) goes h)

-- a declaration more
decl_lower : (model : CostModel) (all : Spaces) (d : Declared) (decl : DeclTree)
    → TermsLower d.built.terms → TermsLower (add_decl model all d decl).built.terms
decl_lower model all d (definition at m n body) h =
    terms_kept (type_puts_types all.types d.built body).terms h
decl_lower model all d (function at n pars gives body) h =
    let bound = build_value_pars d.built pars in
    (term_built all.functions bound.0 body (terms_kept (value_pars_kept d.built pars).terms h)).lower
decl_lower model all d (process at m n pars potential offers body) h =
    let values = build_process_pars d.built pars.values in
    let channels = build_chan_pars all.types values.0 pars.channels in
    let paid = declared_amount channels.0 potential in
    let offered = build_type all.types paid.0 offers in
    code_lower model all (pars_scope pars) offered.0 body
    (terms_kept
    ((type_puts_types all.types paid.0 offers).terms
    ∙ (declared_amount_kept channels.0 potential).terms
    ∙ (chan_pars_put_types all.types values.0 pars.channels).terms
    ∙ (process_pars_kept d.built pars.values).terms)
    h)
decl_lower model all d (transaction at n pars potential body) h =
    let payer = with_payer d.built in
    let values = build_process_pars payer pars.values in
    let channels = build_chan_pars all.types values.0 pars.channels in
    let offered = put_type channels.0 form.One at in
    let paid = declared_amount offered.0 potential in
    code_lower model all (pars_scope pars) paid.0 body
    (terms_kept
    ((declared_amount_kept offered.0 potential).terms
    ∙ (chan_pars_put_types all.types values.0 pars.channels).terms
    ∙ (process_pars_kept payer pars.values).terms)
    h)

decls_lower : (model : CostModel) (all : Spaces) (d : Declared) (decls : List DeclTree)
    → TermsLower d.built.terms → TermsLower (add_decls model all d decls).built.terms
decls_lower model all d [] h = h
decls_lower model all d (decl ∷ decls) h =
    decls_lower model all (add_decl model all d decl) decls (decl_lower model all d decl h)

-- the term nodes of the program of a tree
program_terms : (tree : FileTree) → TermsLower (program_of tree).terms
program_terms tree =
    decls_lower (model_of tree.cost) (declaring_all no_names tree.decls) nothing_declared tree.decls
    (lower_none TermNode term_parts)

-- the parts of each node have lower numbers than the node
pub parts-lower : (tree : FileTree) → PartsAreLower (program_of tree)
parts-lower tree = record {
  types = lower_found TypeAt parts_at (program_of tree).types (program_types tree).lower;
  terms = lower_found TermNode term_parts (program_of tree).terms (program_terms tree);
  code = lower_found CodeNode code_next (program_of tree).code (program_code tree).lower;
}
