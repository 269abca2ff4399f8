-- The program of a tree with `cost all` in which no `work` is written has a `work {1}` before each other instruction.
use Rattle.std.proofs.Common.{◌≡◌, ℕ, zero, suc, true, false, IsTrue, IsFalse, List, [], ◌∷◌, ◌++◌, length, All, Some, None, slice_get, refl, sym, subst, ◌∙◌}
use Rattle.std.specs.List.{flat_map}
use Rattle.std.proofs.lemmas.List.Elements.{All-nil, All-cons, All-push, All-map, All-weaker}
use Rattle.nomos_elaborate.proofs.KeptNodeLaws.{value_pars_kept, process_pars_kept, declared_amount_kept, type_puts_types, chan_pars_put_types, term_puts_terms, values_put_terms, step_puts_terms}
use Rattle.nomos_elaborate.specs.Built.{Built, with_label, with_variable, put_type}
use Rattle.nomos_elaborate.specs.CodeBuild.{build_value, build_values, build_step, build_steps, build_code, build_last, build_arms}
use Rattle.nomos_elaborate.specs.CodeClaims.{scope_after, matched_list}
use Rattle.nomos_elaborate.specs.CostModel.{put_code, model_of}
use Rattle.nomos_elaborate.specs.FileBuild.{Declared, nothing_declared, build_value_pars, build_process_pars, build_chan_pars, declared_amount, with_payer, add_decl, add_decls, program_of}
use Rattle.nomos_elaborate.specs.FileClaims.{pars_scope}
use Rattle.nomos_elaborate.specs.Scope.{Scope}
use Rattle.nomos_elaborate.specs.Spaces.{no_names, declaring_all}
use Rattle.nomos_elaborate.specs.TermBuild.{build_term}
use Rattle.nomos_elaborate.specs.TypeBuild.{build_type}
use Rattle.nomos_elaborate.specs.declared.spaces.Spaces.{Spaces}
use Rattle.nomos_ir.proofs.NodeLaws.{All-at}
use Rattle.nomos_ir.specs.CodeParts.{code_next}
use Rattle.nomos_ir.specs.Instruction.{code_offset}
use Rattle.nomos_ir.specs.CostAll.{is_work, IsUnderCostAll}
use Rattle.nomos_ir.specs.declared.amount.Amount.{Amount}
use Rattle.nomos_ir.specs.declared.amount.Amount.TheVariants as amount
use Rattle.nomos_ir.specs.declared.code_node.Arm.{Arm}
use Rattle.nomos_ir.specs.declared.code_node.CodeNode.{CodeNode}
use Rattle.nomos_ir.specs.declared.code_node.CodeNode.TheVariants as node
use Rattle.nomos_ir.specs.declared.declaration.ProcDecl.{ProcDecl}
use Rattle.nomos_ir.specs.declared.ids.CodeId.{CodeId}
use Rattle.nomos_ir.specs.declared.type_node.TypeNode.TheVariants as type_node
use Rattle.nomos_elaborate.specs.WrittenWork.{step_works, code_works, last_works, arm_works, decl_works, first_of_list, refused_work, written_work}
use Rattle.nomos_surface.specs.declared.surface.CostModel.{CostModel}
use Rattle.nomos_surface.specs.declared.surface.CostModel.TheVariants as cost
use Rattle.nomos_surface.specs.Tree.{StepTree, label, send, recv, put, taking, pay, getting, work, wait, accept, detach, acquire, release, spawn, binding, empty_list, longer_list, emit, CodeTree, code, LastTree, close, fwd, calling, code_if, case, code_match, ArmTrees, no_arms, arm, DeclTree, definition, function, process, transaction, FileTree}

-- ---- lists

-- what stands in a list stands in a longer one
at-front : {X : Type 0} (xs ys : List X) (k : ℕ) (x : X) → slice_get xs k ≡ Some x → slice_get (xs ++ ys) k ≡ Some x
at-front [] ys k x there = absurd cc
at-front (y ∷ xs) ys zero x there = there
at-front (y ∷ xs) ys (suc k) x there = at-front xs ys k x there

at-end : {X : Type 0} (xs : List X) (x : X) → slice_get (xs ++ x ∷ []) (length xs) ≡ Some x
at-end [] x = refl
at-end (y ∷ xs) x = at-end xs x

-- both parts of an empty list are empty
front-empty : {X : Type 0} (xs ys : List X) → xs ++ ys ≡ [] → xs ≡ []
front-empty [] ys none = refl
front-empty (x ∷ xs) ys none = absurd cc

back-empty : {X : Type 0} (xs ys : List X) → xs ++ ys ≡ [] → ys ≡ []
back-empty [] ys none = none
back-empty (x ∷ xs) ys none = absurd cc

-- ---- code in which each instruction is charged

-- a `work` stands at the number
abbrev WorkStands : List CodeNode → ℕ → Type 0
WorkStands nodes c = (n : CodeNode) × (slice_get nodes c ≡ Some n) × IsTrue (is_work n)

-- The instruction is a `work {1}`, or none, and then a `work` stands wherever it goes on.
data IsCharged (nodes : List CodeNode) : CodeNode → Type 0 where
  unit : (at : ℕ) (next : CodeId) → IsCharged nodes (node.Work at (amount.Written 1) next)
  other : (n : CodeNode) → IsFalse (is_work n) → All (WorkStands nodes) (code_next n) → IsCharged nodes n

abbrev AllCharged : List CodeNode → Type 0
AllCharged nodes = All (IsCharged nodes) nodes

-- all that stands in the one code stands in the other
abbrev Keeps : List CodeNode → List CodeNode → Type 0
Keeps old new = (c : ℕ) (n : CodeNode) → slice_get old c ≡ Some n → slice_get new c ≡ Some n

works-kept : (old new : List CodeNode) → Keeps old new → (c : ℕ) → WorkStands old c → WorkStands new c
works-kept old new keeps c (n, there, works) = (n, keeps c n there, works)

charged-kept : (old new : List CodeNode) → Keeps old new → (n : CodeNode) → IsCharged old n → IsCharged new n
charged-kept old new keeps _ (unit at next) = unit at next
charged-kept old new keeps _ (other n none goes_on) =
    other n none
    (All-weaker (WorkStands old) (WorkStands new) (works-kept old new keeps) (code_next n) goes_on)

-- ---- what is built of a code

-- all instructions are charged, a `work` stands at the root, and what was there is kept
record IsBuilt (s : Built) (built : Built × CodeId) : Type 0 where
  all : AllCharged built.0.code
  root : WorkStands built.0.code built.1.0
  keeps : Keeps s.code built.0.code

-- one code node, and the `work` before it
put-charged : (s t : Built) (n : CodeNode) → AllCharged t.code → Keeps s.code t.code → IsFalse (is_work n)
    → All (WorkStands t.code) (code_next n) → IsBuilt s (put_code cost.All t n)
put-charged s t n all keeps none goes_on =
    let put : List CodeNode = t.code ++ n ∷ [] in
    let before : CodeNode = node.Work (code_offset n) (amount.Written 1) (record { 0 = length t.code }) in
    let new : List CodeNode = put ++ before ∷ [] in
    let keeps_more : Keeps t.code new =
    λ c m there. at-front put (before ∷ []) c m (at-front t.code (n ∷ []) c m there)
    in
    let charged = charged-kept t.code new keeps_more in
    let olds : All (IsCharged new) t.code = All-weaker (IsCharged t.code) (IsCharged new) charged t.code all in
    record {
      all =
          All-push (IsCharged new) put before
          (All-push (IsCharged new) t.code n olds (charged n (other n none goes_on)))
          (unit (code_offset n) (record { 0 = length t.code }));
      root = (before, at-end put before, refl);
      keeps = λ c m there. keeps_more c m (keeps c m there);
    }

-- the node of a step that is no written `work`
step-node : (spaces : Spaces) (scope : Scope) (s : Built) (step : StepTree) (next : CodeId) → step_works step ≡ []
    → IsFalse (is_work ((build_step spaces scope s step).1 next))
    × (code_next ((build_step spaces scope s step).1 next) ≡ next.0 ∷ [])
step-node spaces scope s (label x l) next none = (refl, refl)
step-node spaces scope s (send at x y) next none = (refl, refl)
step-node spaces scope s (recv at x y) next none = (refl, refl)
step-node spaces scope s (put at x e) next none = (refl, refl)
step-node spaces scope s (taking at x v) next none = (refl, refl)
step-node spaces scope s (pay at x q) next none = (refl, refl)
step-node spaces scope s (getting at x q) next none = (refl, refl)
step-node spaces scope s (work at q) next none = absurd cc
step-node spaces scope s (wait at x) next none = (refl, refl)
step-node spaces scope s (accept at) next none = (refl, refl)
step-node spaces scope s (detach at) next none = (refl, refl)
step-node spaces scope s (acquire at a x) next none = (refl, refl)
step-node spaces scope s (release at x a) next none = (refl, refl)
step-node spaces scope s (spawn at x f arguments) next none = (refl, refl)
step-node spaces scope s (binding at v e) next none = (refl, refl)
step-node spaces scope s (empty_list at v list_at q t) next none = (refl, refl)
step-node spaces scope s (longer_list at v e w) next none = (refl, refl)
step-node spaces scope s (emit at e) next none = (refl, refl)

-- where no code node was put
charged-same : (s t : Built) → t.code ≡ s.code → AllCharged s.code → AllCharged t.code
charged-same s t same all = subst AllCharged (sym same) all

keeps-same : (s t : Built) → t.code ≡ s.code → Keeps s.code t.code
keeps-same s t same = subst (Keeps s.code) (sym same) (λ c n there. there)

keeps-then : (old between new : List CodeNode) → Keeps old between → Keeps between new → Keeps old new
keeps-then old between new first second = λ c n there. second c n (first c n there)

-- one number at which a `work` stands, and two
one-stands : (nodes : List CodeNode) (a : ℕ) → WorkStands nodes a → All (WorkStands nodes) (a ∷ [])
one-stands nodes a first = All-cons (WorkStands nodes) a [] first (All-nil (WorkStands nodes))

two-stand : (nodes : List CodeNode) (a b : ℕ) → WorkStands nodes a → WorkStands nodes b
    → All (WorkStands nodes) (a ∷ b ∷ [])
two-stand nodes a b first second = All-cons (WorkStands nodes) a (b ∷ []) first (one-stands nodes b second)

module _ (spaces : Spaces) where
  -- steps before a last instruction that is charged
  steps-charged : (scope : Scope) (s : Built) (steps : List StepTree) (last : Scope → Built → Built × CodeId)
      → flat_map step_works steps ≡ []
      → ((inner : Scope) (made : Built) → AllCharged made.code → IsBuilt made (last inner made))
      → AllCharged s.code
      → IsBuilt s (build_steps cost.All spaces scope s steps last)
  steps-charged scope s [] last none behind all = behind scope s all
  steps-charged scope s (step ∷ steps) last none behind all =
      let made = build_step spaces scope s step in
      let same = (step_puts_terms spaces scope s step).code in
      let rest = build_steps cost.All spaces (scope_after scope step) made.0 steps last in
      let others = back-empty (step_works step) (flat_map step_works steps) none in
      let h : IsBuilt made.0 rest =
      steps-charged (scope_after scope step) made.0 steps last others behind (charged-same s made.0 same all)
      in
      let own = step-node spaces scope s step rest.1 (front-empty (step_works step) (flat_map step_works steps) none) in
      let goes_on = one-stands rest.0.code rest.1.0 h.root in
      put-charged s rest.0 (made.1 rest.1) h.all
      (keeps-then s.code made.0.code rest.0.code (keeps-same s made.0 same) h.keeps)
      own.0
      (subst (All (WorkStands rest.0.code)) (sym own.1) goes_on)

  -- what is built of the branches of a `case`
  record AreBuilt (s : Built) (built : Built × List Arm) : Type 0 where
    all : AllCharged built.0.code
    roots : All (λ a. WorkStands built.0.code a.goes.0) built.1
    keeps : Keeps s.code built.0.code

  -- all instructions of a code
  mutual
    unfolding build_code build_last build_arms code_works last_works arm_works

    code-charged : (scope : Scope) (s : Built) (c : CodeTree) → code_works c ≡ [] → AllCharged s.code
        → IsBuilt s (build_code cost.All spaces scope s c)
    code-charged scope s (code steps last) none all =
        steps-charged scope s steps (λ inner made. build_last cost.All spaces inner made last)
        (front-empty (flat_map step_works steps) (last_works last) none)
        (λ inner made charged.
        last-charged inner made last (back-empty (flat_map step_works steps) (last_works last) none) charged)
        all

    last-charged : (scope : Scope) (s : Built) (l : LastTree) → last_works l ≡ [] → AllCharged s.code
        → IsBuilt s (build_last cost.All spaces scope s l)
    last-charged scope s (close at) none all =
        put-charged s s _ all (λ c n there. there) refl (All-nil (WorkStands s.code))
    last-charged scope s (fwd at x) none all =
        put-charged s s _ all (λ c n there. there) refl (All-nil (WorkStands s.code))
    last-charged scope s (calling at f arguments) none all =
        let t = (build_values spaces scope s arguments.values).0 in
        let same = (values_put_terms spaces scope s arguments.values).code in
        put-charged s t _ (charged-same s t same all) (keeps-same s t same) refl (All-nil (WorkStands t.code))
    last-charged scope s (code_if at test holds fails) none all =
        let t = (build_value spaces s test).0 in
        let same = (term_puts_terms spaces.functions s test).code in
        let a = build_code cost.All spaces scope t holds in
        let b = build_code cost.All spaces scope a.0 fails in
        let h : IsBuilt t a =
        code-charged scope t holds (front-empty (code_works holds) (code_works fails) none) (charged-same s t same all)
        in
        let i : IsBuilt a.0 b =
        code-charged scope a.0 fails (back-empty (code_works holds) (code_works fails) none) h.all
        in
        put-charged s b.0 _ i.all
        (keeps-then s.code a.0.code b.0.code (keeps-then s.code t.code a.0.code (keeps-same s t same) h.keeps) i.keeps)
        refl
        (two-stand b.0.code a.1.0 b.1.0 (works-kept a.0.code b.0.code i.keeps a.1.0 h.root) i.root)
    last-charged scope s (case at x arms) none all =
        let built = build_arms cost.All spaces scope s arms in
        let h : AreBuilt s built = arms-charged scope s arms none all in
        put-charged s built.0 _ h.all h.keeps refl
        (All-map (WorkStands built.0.code) (λ (a : Arm). a.goes.0) built.1 h.roots)
    last-charged scope s (code_match at w empty head tail more) none all =
        let a = build_code cost.All spaces scope s empty in
        let u = with_variable (with_variable a.0 head) tail in
        let b = build_code cost.All spaces (matched_list scope head tail) u more in
        let h : IsBuilt s a = code-charged scope s empty (front-empty (code_works empty) (code_works more) none) all in
        let i : IsBuilt u b =
        code-charged (matched_list scope head tail) u more (back-empty (code_works empty) (code_works more) none) h.all
        in
        put-charged s b.0 _ i.all (keeps-then s.code a.0.code b.0.code h.keeps i.keeps) refl
        (two-stand b.0.code a.1.0 b.1.0 (works-kept a.0.code b.0.code i.keeps a.1.0 h.root) i.root)

    arms-charged : (scope : Scope) (s : Built) (arms : ArmTrees) → arm_works arms ≡ [] → AllCharged s.code
        → AreBuilt s (build_arms cost.All spaces scope s arms)
    arms-charged scope s no_arms none all = record {
      all = all;
      roots = All-nil (λ (a : Arm). WorkStands s.code a.goes.0);
      keeps = λ c n there. there;
    }
    arms-charged scope s (arm l goes arms) none all =
        let a = build_code cost.All spaces scope (with_label s l) goes in
        let b = build_arms cost.All spaces scope a.0 arms in
        let h : IsBuilt (with_label s l) a =
        code-charged scope (with_label s l) goes (front-empty (code_works goes) (arm_works arms) none) all
        in
        let i : AreBuilt a.0 b =
        arms-charged scope a.0 arms (back-empty (code_works goes) (arm_works arms) none) h.all
        in
        record {
          all = i.all;
          roots =
              All-cons (λ (m : Arm). WorkStands b.0.code m.goes.0) _ b.1
              (works-kept a.0.code b.0.code i.keeps a.1.0 h.root) i.roots;
          keeps = keeps-then s.code a.0.code b.0.code h.keeps i.keeps;
        }

-- ---- what is declared

-- all instructions are charged, and a `work` stands first in each process
record AreDeclared (d : Declared) : Type 0 where
  all : AllCharged d.built.code
  firsts : All (λ p. WorkStands d.built.code p.first.0) d.procs

none-declared : AreDeclared nothing_declared
none-declared = record {
  all = All-nil (IsCharged []);
  firsts = All-nil (λ (p : ProcDecl). WorkStands [] p.first.0);
}

-- declarations of which the code is kept
firsts-kept : (old new : List CodeNode) (procs : List ProcDecl) → Keeps old new
    → All (λ p. WorkStands old p.first.0) procs
    → All (λ p. WorkStands new p.first.0) procs
firsts-kept old new procs keeps all =
    All-weaker (λ (p : ProcDecl). WorkStands old p.first.0) (λ (p : ProcDecl). WorkStands new p.first.0)
    (λ p stands. works-kept old new keeps p.first.0 stands)
    procs all

-- one process more, whose code was built behind what makes no code node
process-declared : (d : Declared) (t : Built) (built : Built × CodeId) (p : ProcDecl) → p.first ≡ built.1
    → t.code ≡ d.built.code → AreDeclared d → IsBuilt t built
    → All (λ q. WorkStands built.0.code q.first.0) (d.procs ++ p ∷ [])
process-declared d t built p first same declared h =
    let Stands : CodeId → Type 0 = λ c. WorkStands built.0.code c.0 in
    let keeps : Keeps d.built.code built.0.code =
    keeps-then d.built.code t.code built.0.code (keeps-same d.built t same) h.keeps
    in
    All-push (λ (q : ProcDecl). WorkStands built.0.code q.first.0) d.procs p
    (firsts-kept d.built.code built.0.code d.procs keeps declared.firsts)
    (subst Stands (sym first) h.root)

-- one declaration more
decl-charged : (all : Spaces) (d : Declared) (decl : DeclTree) → decl_works decl ≡ [] → AreDeclared d
    → AreDeclared (add_decl cost.All all d decl)
decl-charged all d (definition at m n body) none declared =
    let t = (build_type all.types d.built body).0 in
    let same = (type_puts_types all.types d.built body).code in
    record {
      all = charged-same d.built t same declared.all;
      firsts = firsts-kept d.built.code t.code d.procs (keeps-same d.built t same) declared.firsts;
    }
decl-charged all d (function at n pars gives body) none declared =
    let bound = (build_value_pars d.built pars).0 in
    let t = (build_term all.functions bound body).0 in
    let same = (term_puts_terms all.functions bound body).code ∙ (value_pars_kept d.built pars).code in
    record {
      all = charged-same d.built t same declared.all;
      firsts = firsts-kept d.built.code t.code d.procs (keeps-same d.built t same) declared.firsts;
    }
decl-charged all d (process at m n pars q offers body) none declared =
    let values = (build_process_pars d.built pars.values).0 in
    let channels = (build_chan_pars all.types values pars.channels).0 in
    let paid = (declared_amount channels q).0 in
    let offered = (build_type all.types paid offers).0 in
    let same =
    (type_puts_types all.types paid offers).code
    ∙ (declared_amount_kept channels q).code
    ∙ (chan_pars_put_types all.types values pars.channels).code
    ∙ (process_pars_kept d.built pars.values).code in
    let built = build_code cost.All all (pars_scope pars) offered body in
    let h : IsBuilt offered built =
    code-charged all (pars_scope pars) offered body none (charged-same d.built offered same declared.all)
    in
    record { all = h.all; firsts = process-declared d offered built _ refl same declared h }
decl-charged all d (transaction at n pars q body) none declared =
    let payer = with_payer d.built in
    let values = (build_process_pars payer pars.values).0 in
    let channels = (build_chan_pars all.types values pars.channels).0 in
    let offered = (put_type channels type_node.One at).0 in
    let paid = (declared_amount offered q).0 in
    let same =
    (declared_amount_kept offered q).code
    ∙ (chan_pars_put_types all.types values pars.channels).code
    ∙ (process_pars_kept payer pars.values).code in
    let built = build_code cost.All all (pars_scope pars) paid body in
    let h : IsBuilt paid built =
    code-charged all (pars_scope pars) paid body none (charged-same d.built paid same declared.all)
    in
    record { all = h.all; firsts = process-declared d paid built _ refl same declared h }

-- all declarations
decls-charged : (all : Spaces) (d : Declared) (decls : List DeclTree) → flat_map decl_works decls ≡ []
    → AreDeclared d → AreDeclared (add_decls cost.All all d decls)
decls-charged all d [] none declared = declared
decls-charged all d (decl ∷ decls) none declared =
    decls-charged all (add_decl cost.All all d decl) decls
    (back-empty (decl_works decl) (flat_map decl_works decls) none)
    (decl-charged all d decl (front-empty (decl_works decl) (flat_map decl_works decls) none) declared)

-- ---- the program

-- a charged `work` costs one unit
unit-charged : (nodes : List CodeNode) (n : CodeNode) (at : ℕ) (q : Amount) (next : CodeId) → IsCharged nodes n
    → n ≡ node.Work at q next → q ≡ amount.Written 1
unit-charged nodes _ at q next (unit own_at own_next) same = cc
unit-charged nodes _ at q next (other n none goes_on) same =
    let never : true ≡ false = subst (λ (m : CodeNode). IsFalse (is_work m)) same none in
    absurd cc

-- a charged instruction that is no `work` goes on with one
behind-charged : (nodes : List CodeNode) (n : CodeNode) → IsCharged nodes n → IsFalse (is_work n)
    → All (WorkStands nodes) (code_next n)
behind-charged nodes _ (unit at next) none =
    let never : true ≡ false = none in
    absurd cc
behind-charged nodes _ (other n not_work goes_on) none = goes_on

-- no `work` is written where none is refused under `all`
none-first : (works : List ℕ) → first_of_list works ≡ None → works ≡ []
none-first [] none = refl
none-first (at ∷ works) none = absurd cc

-- The program of a tree with `cost all` in which no `work` is written is under `cost all`.
pub under-cost_all : (tree : FileTree) → model_of tree.cost ≡ cost.All → written_work tree ≡ None
    → IsUnderCostAll (program_of tree)
under-cost_all tree all none =
    let spaces = declaring_all no_names tree.decls in
    let refused : refused_work cost.All tree.decls ≡ None =
    subst (λ (m : CostModel). refused_work m tree.decls ≡ None) all none
    in
    let works = none-first (flat_map decl_works tree.decls) refused in
    let charged = decls-charged spaces nothing_declared tree.decls works none-declared in
    let h : AreDeclared (add_decls (model_of tree.cost) spaces nothing_declared tree.decls) =
    subst (λ (m : CostModel). AreDeclared (add_decls m spaces nothing_declared tree.decls)) (sym all) charged
    in
    let nodes = (program_of tree).code in
    let each : (c : ℕ) (n : CodeNode) → slice_get nodes c ≡ Some n → IsCharged nodes n =
    λ c n there. All-at (IsCharged nodes) nodes c n h.all there
    in
    record {
      one_unit = λ c at q next there. unit-charged nodes _ at q next (each c (node.Work at q next) there) refl;
      first = h.firsts;
      behind = λ c n there not_work. behind-charged nodes n (each c n there) not_work;
    }
