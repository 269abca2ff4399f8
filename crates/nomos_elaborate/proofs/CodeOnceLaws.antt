-- Each code node of a program stands after those with which it goes on, and in one place at most.
use Rattle.std.proofs.Common.{◌≡◌, ◌≤◌, inl, inr, ℕ, Bool, true, false, List, [], ◌∷◌, ◌++◌, length, map, flat_map, refl, sym, subst, ◌∙◌, arith}
use Rattle.std.proofs.lemmas.Bool.{cases_lt}
use Rattle.std.specs.Prelude.{if◌then◌else◌}
use Rattle.nomos_elaborate.proofs.KeptNodeLaws.{process_pars_kept, value_pars_kept, declared_amount_kept, type_puts_types, chan_pars_put_types, term_puts_terms, values_put_terms, step_puts_terms}
use Rattle.nomos_elaborate.proofs.StandOnce.{Placed, placed_none, placed_same, placed_front, placed_more, count_of-append, count_of-cons, count_of-map_push}
use Rattle.nomos_elaborate.specs.Built.{Built, with_label, with_variable, variable_id, put_type}
use Rattle.nomos_elaborate.specs.CodeBuild.{build_value, build_arguments, build_step, build_steps, build_code, build_last, build_arms, chan_of, process_id}
use Rattle.nomos_elaborate.specs.CodeClaims.{scope_after, matched_list}
use Rattle.nomos_elaborate.specs.CostModel.{put_code, put_node, put_work, is_charged, model_of}
use Rattle.nomos_ir.specs.Instruction.{code_offset}
use Rattle.nomos_elaborate.specs.FileBuild.{Declared, nothing_declared, build_value_pars, build_process_pars, build_chan_pars, declared_amount, with_payer, add_decl, add_decls, program_of}
use Rattle.nomos_elaborate.specs.FileClaims.{pars_scope}
use Rattle.nomos_elaborate.specs.Scope.{Scope}
use Rattle.nomos_elaborate.specs.Spaces.{declaring_all, no_names}
use Rattle.nomos_elaborate.specs.TypeBuild.{build_type}
use Rattle.nomos_elaborate.specs.declared.spaces.Spaces.{Spaces}
use Rattle.nomos_ir.specs.declared.amount.Amount.TheVariants as amount
use Rattle.nomos_ir.specs.declared.code_node.CodeNode.{CodeNode}
use Rattle.nomos_ir.specs.declared.code_node.CodeNode.TheVariants as node
use Rattle.nomos_ir.specs.declared.declaration.ProcDecl.{ProcDecl}
use Rattle.nomos_ir.specs.declared.ids.CodeId.{CodeId}
use Rattle.nomos_ir.specs.declared.type_node.TypeNode.TheVariants as form
use Rattle.nomos_ir.specs.CodeParts.{code_next}
use Rattle.nomos_ir.specs.Order.{count_of, CodeStandsOnce}
use Rattle.nomos_surface.specs.declared.surface.CostModel.{CostModel}
use Rattle.nomos_surface.specs.Tree.{StepTree, label, send, recv, put, taking, pay, getting, work, wait, accept, detach, acquire, release, spawn, binding, empty_list, longer_list, emit, CodeTree, code, LastTree, close, fwd, calling, code_if, case, code_match, ArmTrees, no_arms, arm, DeclTree, definition, function, process, transaction, FileTree}

-- code nodes that stand after those with which they go on, each in one place but for those that wait
abbrev pub CodePlaced : List ℕ → List CodeNode → Type 0
CodePlaced waiting nodes = Placed CodeNode code_next waiting nodes

-- a code was built: its root waits
abbrev CodeWaits : List ℕ → Built × CodeId → Type 0
CodeWaits waiting built = CodePlaced (built.1.0 ∷ waiting) built.0.code

-- the same code nodes
code_kept : {before after : List CodeNode} (waiting : List ℕ)
    → after ≡ before → CodePlaced waiting before → CodePlaced waiting after
code_kept waiting kept h = subst (CodePlaced waiting) (sym kept) h

-- a code node waits in place of those with which it goes on, or the `work` before it does
code_more : (model : CostModel) (rest : List ℕ) (s : Built) (n : CodeNode) (own : List ℕ)
    → code_next n ≡ own → CodePlaced (own ++ rest) s.code
    → CodeWaits rest (put_code model s n)
code_more model rest s n own are h = by (is_charged model n)
  where
    put : CodePlaced (length s.code ∷ rest) (s.code ++ n ∷ [])
    put = placed_more CodeNode code_next rest s.code n own are h

    by : (b : Bool)
        → CodeWaits rest (if b then put_work (put_node s n) (code_offset n) else put_node s n)
    by true =
        placed_more CodeNode code_next rest (s.code ++ n ∷ [])
        (node.Work (code_offset n) (amount.Written 1) (record { 0 = length s.code }))
        (length s.code ∷ []) refl put
    by false = put

-- the node of a step goes on with the code that was built
step_goes_on : (spaces : Spaces) (scope : Scope) (s : Built) (step : StepTree) (next : CodeId)
    → code_next ((build_step spaces scope s step).1 next) ≡ next.0 ∷ []
step_goes_on spaces scope s (label x l) next = refl
step_goes_on spaces scope s (send at x y) next = refl
step_goes_on spaces scope s (recv at x y) next = refl
step_goes_on spaces scope s (put at x e) next = refl
step_goes_on spaces scope s (taking at x v) next = refl
step_goes_on spaces scope s (pay at x q) next = refl
step_goes_on spaces scope s (getting at x q) next = refl
step_goes_on spaces scope s (work at q) next = refl
step_goes_on spaces scope s (wait at x) next = refl
step_goes_on spaces scope s (accept at) next = refl
step_goes_on spaces scope s (detach at) next = refl
step_goes_on spaces scope s (acquire at a x) next = refl
step_goes_on spaces scope s (release at x a) next = refl
step_goes_on spaces scope s (spawn at x f arguments) next = refl
step_goes_on spaces scope s (binding at v e) next = refl
step_goes_on spaces scope s (empty_list at v list_at q t) next = refl
step_goes_on spaces scope s (longer_list at v e w) next = refl
step_goes_on spaces scope s (emit at e) next = refl

-- steps before a last instruction whose root waits: the root of all waits
steps_placed : (model : CostModel) (spaces : Spaces) (waiting : List ℕ) (scope : Scope) (s : Built)
    (steps : List StepTree)
    (last : Scope → Built → Built × CodeId)
    → ((inner : Scope) (made : Built) → CodePlaced waiting made.code → CodeWaits waiting (last inner made))
    → CodePlaced waiting s.code
    → CodeWaits waiting (build_steps model spaces scope s steps last)
steps_placed model spaces waiting scope s [] last ends h = ends scope s h
steps_placed model spaces waiting scope s (step ∷ steps) last ends h =
    let made = build_step spaces scope s step in
    let rest = build_steps model spaces (scope_after scope step) made.0 steps last in
    code_more model waiting rest.0 (made.1 rest.1) (rest.1.0 ∷ [])
    (step_goes_on spaces scope s step rest.1)
    (steps_placed model spaces waiting (scope_after scope step) made.0 steps last ends
    (code_kept waiting (step_puts_terms spaces scope s step).code h))

-- a code is built: its root waits
mutual
  unfolding build_code build_last build_arms

  code_placed : (model : CostModel) (spaces : Spaces) (waiting : List ℕ) (scope : Scope) (s : Built) (c : CodeTree)
      → CodePlaced waiting s.code
      → CodeWaits waiting (build_code model spaces scope s c)
  code_placed model spaces waiting scope s (code steps last) h =
      steps_placed model spaces waiting scope s steps (λ inner made. build_last model spaces inner made last)
      (λ inner made. last_placed model spaces waiting inner made last) h

  last_placed : (model : CostModel) (spaces : Spaces) (waiting : List ℕ) (scope : Scope) (s : Built) (l : LastTree)
      → CodePlaced waiting s.code
      → CodeWaits waiting (build_last model spaces scope s l)
  last_placed model spaces waiting scope s (close at) h = code_more model waiting s (node.Close at) [] refl h
  last_placed model spaces waiting scope s (fwd at x) h =
      code_more model waiting s (node.Fwd at (variable_id s x)) [] refl h
  last_placed model spaces waiting scope s (calling at f arguments) h =
      let built = build_arguments spaces scope s arguments in
      code_more model waiting built.0 (node.Call at (process_id spaces f) built.1) [] refl
      (code_kept waiting (values_put_terms spaces scope s arguments.values).code h)
  last_placed model spaces waiting scope s (code_if at test holds fails) h =
      let t = build_value spaces s test in
      let a = build_code model spaces scope t.0 holds in
      let b = build_code model spaces scope a.0 fails in
      code_more model waiting b.0 (node.If at t.1 a.1 b.1) (a.1.0 ∷ b.1.0 ∷ []) refl
      (placed_front CodeNode code_next a.1.0 (b.1.0 ∷ []) waiting b.0.code
      (code_placed model spaces (a.1.0 ∷ waiting) scope a.0 fails
      (code_placed model spaces waiting scope t.0 holds
      (code_kept waiting (term_puts_terms spaces.functions s test).code h))))
  last_placed model spaces waiting scope s (case at x arms) h =
      let built = build_arms model spaces scope s arms in
      code_more model waiting built.0 (node.Case at (chan_of s x) built.1) (map (λ a. a.goes.0) built.1) refl
      (arms_placed model spaces waiting scope s arms h)
  last_placed model spaces waiting scope s (code_match at w empty head tail more) h =
      let a = build_code model spaces scope s empty in
      let one = with_variable a.0 head in
      let two = with_variable one tail in
      let inner = matched_list scope head tail in
      let b = build_code model spaces inner two more in
      code_more model waiting b.0
      (node.Match at (variable_id s w) a.1 (variable_id one head) (variable_id two tail) b.1)
      (a.1.0 ∷ b.1.0 ∷ []) refl
      (placed_front CodeNode code_next a.1.0 (b.1.0 ∷ []) waiting b.0.code
      (code_placed model spaces (a.1.0 ∷ waiting) inner two more (code_placed model spaces waiting scope s empty h)))

  arms_placed : (model : CostModel) (spaces : Spaces) (waiting : List ℕ) (scope : Scope) (s : Built) (arms : ArmTrees)
      → CodePlaced waiting s.code
      → CodePlaced (map (λ a. a.goes.0) (build_arms model spaces scope s arms).1 ++ waiting)
      (build_arms model spaces scope s arms).0.code
  arms_placed model spaces waiting scope s no_arms h = h
  arms_placed model spaces waiting scope s (arm l goes arms) h =
      let a = build_code model spaces scope (with_label s l) goes in
      let rest = build_arms model spaces scope a.0 arms in
      placed_front CodeNode code_next a.1.0 (map (λ a. a.goes.0) rest.1) waiting rest.0.code
      (arms_placed model spaces (a.1.0 ∷ waiting) scope a.0 arms
      (code_placed model spaces waiting scope (with_label s l) goes h))

-- where code nodes stand in declarations
abbrev pub code_declared : List ProcDecl → List ℕ
code_declared procs = map (λ d. d.first.0) procs

-- one process more
more_code : (k : ℕ) (procs : List ProcDecl) (d : ProcDecl)
    → count_of k (code_declared (procs ++ d ∷ [])) ≡ count_of k (d.first.0 ∷ code_declared procs)
more_code k procs d =
    let pushed = count_of-map_push k (λ (e : ProcDecl). e.first.0) procs d in
    let waiting = count_of-cons k d.first.0 (code_declared procs) in
    omega arith

-- a process more whose code waited
proc_declared : (procs : List ProcDecl) (d : ProcDecl) (nodes : List CodeNode)
    → CodePlaced (d.first.0 ∷ code_declared procs) nodes → CodePlaced (code_declared (procs ++ d ∷ [])) nodes
proc_declared procs d nodes h =
    placed_same CodeNode code_next (d.first.0 ∷ code_declared procs) (code_declared (procs ++ d ∷ [])) nodes
    (λ k. more_code k procs d) h

-- the code nodes of declarations
abbrev pub CodeDeclared : Declared → Type 0
CodeDeclared d = CodePlaced (code_declared d.procs) d.built.code

-- a declaration more
decl_declared : (model : CostModel) (all : Spaces) (d : Declared) (decl : DeclTree)
    → CodeDeclared d → CodeDeclared (add_decl model all d decl)
decl_declared model all d (definition at m n body) h =
    code_kept (code_declared d.procs) (type_puts_types all.types d.built body).code h
decl_declared model all d (function at n pars gives body) h =
    let bound = build_value_pars d.built pars in
    code_kept (code_declared d.procs)
    ((term_puts_terms all.functions bound.0 body).code ∙ (value_pars_kept d.built pars).code)
    h
decl_declared model all d (process at m n pars potential offers body) h =
    let waiting = code_declared d.procs in
    let values = build_process_pars d.built pars.values in
    let channels = build_chan_pars all.types values.0 pars.channels in
    let paid = declared_amount channels.0 potential in
    let offered = build_type all.types paid.0 offers in
    proc_declared d.procs _ _
    (code_placed model all waiting (pars_scope pars) offered.0 body
    (code_kept waiting
    ((type_puts_types all.types paid.0 offers).code
    ∙ (declared_amount_kept channels.0 potential).code
    ∙ (chan_pars_put_types all.types values.0 pars.channels).code
    ∙ (process_pars_kept d.built pars.values).code)
    h))
decl_declared model all d (transaction at n pars potential body) h =
    let waiting = code_declared d.procs in
    let payer = with_payer d.built in
    let values = build_process_pars payer pars.values in
    let channels = build_chan_pars all.types values.0 pars.channels in
    let offered = put_type channels.0 form.One at in
    let paid = declared_amount offered.0 potential in
    proc_declared d.procs _ _
    (code_placed model all waiting (pars_scope pars) paid.0 body
    (code_kept waiting
    ((declared_amount_kept offered.0 potential).code
    ∙ (chan_pars_put_types all.types values.0 pars.channels).code
    ∙ (process_pars_kept payer pars.values).code)
    h))

decls_declared : (model : CostModel) (all : Spaces) (d : Declared) (decls : List DeclTree)
    → CodeDeclared d → CodeDeclared (add_decls model all d decls)
decls_declared model all d [] h = h
decls_declared model all d (decl ∷ decls) h =
    decls_declared model all (add_decl model all d decl) decls (decl_declared model all d decl h)

-- the code nodes of the program of a tree
pub program_code : (tree : FileTree) → CodePlaced (code_declared (program_of tree).procs) (program_of tree).code
program_code tree =
    decls_declared (model_of tree.cost) (declaring_all no_names tree.decls) nothing_declared tree.decls
    (placed_none CodeNode code_next)

-- code nodes that wait for declarations stand in one place at most
at_most_once : (c : ℕ) (nodes : List CodeNode) (waiting : List ℕ)
    → CodePlaced waiting nodes → count_of c (flat_map code_next nodes ++ waiting) ≤ 1
at_most_once c nodes waiting h =
    let apart = count_of-append c (flat_map code_next nodes) waiting in
    elim (cases_lt c (length nodes)) [
      | inl within ↦ let once = h.once.below c within in omega arith
      | inr le ↦ let none = h.once.past c le in omega arith
    ]

-- each code node stands in one place at most
pub code-once : (tree : FileTree) → CodeStandsOnce (program_of tree)
code-once tree c = at_most_once c (program_of tree).code (code_declared (program_of tree).procs) (program_code tree)
