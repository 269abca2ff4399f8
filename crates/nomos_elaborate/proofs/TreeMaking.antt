-- What types, terms and codes make counts in their trees.
use Rattle.std.proofs.Common.{◌≡◌, ℕ, ◌+◌, ◌≤◌, List, [], ◌∷◌, Option, Some, None, refl, arith}
use Rattle.std.proofs.lemmas.List.Elements.{All-nil}
use Rattle.nomos_elaborate.specs.Built.{Built, with_label, with_variable, amount_of, kind_of}
use Rattle.nomos_elaborate.specs.CodeBuild.{build_value, build_unless_list, build_argument, build_values, build_arguments, build_step, build_steps, build_code, build_last, build_arms}
use Rattle.nomos_elaborate.specs.CodeClaims.{scope_after, matched_list}
use Rattle.nomos_elaborate.specs.ListArgument.{list_argument}
use Rattle.nomos_elaborate.specs.Names.{Names}
use Rattle.nomos_elaborate.specs.Scope.{Scope}
use Rattle.nomos_elaborate.specs.TermBuild.{build_term, build_terms, operator_node}
use Rattle.nomos_elaborate.specs.TypeBuild.{build_type, build_branches, choice_node, channel_node, value_node, paying_node}
use Rattle.nomos_elaborate.specs.declared.spaces.Spaces.{Spaces}
use Rattle.nomos_elaborate.proofs.Making.{TypeKeeps, TermKeeps, CodeKeeps, Makes, makes-nothing, makes-both, makes-under, makes-within, makes-type, makes-term, makes-code, makes-label, makes-variable, makes-amount, amount-small, all-one, plain-type, plain-code}
use Rattle.nomos_grammar.specs.Offence.{star_limit}
use Rattle.nomos_ir.specs.Amounts.{IsAmount}
use Rattle.nomos_ir.specs.CodeParts.{code_amounts, code_kinds}
use Rattle.nomos_ir.specs.Kinds.{IsShallow}
use Rattle.nomos_ir.specs.TermParts.{term_kinds}
use Rattle.nomos_ir.specs.declared.amount.Amount.{Amount}
use Rattle.nomos_ir.specs.declared.code_node.CodeNode.{CodeNode}
use Rattle.nomos_ir.specs.declared.ids.CodeId.{CodeId}
use Rattle.nomos_ir.specs.declared.ids.TermId.{TermId}
use Rattle.nomos_ir.specs.declared.ids.TypeId.{TypeId}
use Rattle.nomos_ir.specs.declared.kind.Kind.{Kind}
use Rattle.nomos_ir.specs.declared.type_node.Branch.{Branch}
use Rattle.nomos_surface.specs.TreeBounds.{KeepsName, KeepsType, KeepsBranches, KeepsTerm, KeepsTerms, KeepsArgs, KeepsStep, KeepsCode, KeepsLast, KeepsArms}
use Rattle.nomos_surface.specs.Counts.{Count, in_each, in_type, in_branches, in_term, in_terms, in_args, in_step, in_code, in_last, in_arms, ◌⊕◌}
use Rattle.nomos_surface.specs.Grammatical.{Each}
use Rattle.nomos_surface.specs.declared.name_at.NameAt.{NameAt}
use Rattle.nomos_surface.specs.declared.surface.CostModel.{CostModel}
use Rattle.nomos_surface.specs.declared.terms.Operator.{Operator}
use Rattle.nomos_surface.specs.declared.terms.Operator.TheVariants as op
use Rattle.nomos_surface.specs.declared.types.Sender.{Sender}
use Rattle.nomos_surface.specs.declared.types.Sender.TheVariants as side
use Rattle.nomos_surface.specs.Tree.{TypeTree, one, named, choice, channel, valued, paying, going_up, going_down, grouped, BranchTrees, no_branches, branch, TermTree, number, truth, me, variable, application, no_items, binary, negation, choosing, matching, parenthesized, TermTrees, no_terms, term, ArgTrees, StepTree, label, send, recv, put, taking, pay, getting, work, wait, accept, detach, acquire, release, spawn, binding, empty_list, longer_list, emit, CodeTree, code, LastTree, close, fwd, calling, code_if, case, code_match, ArmTrees, no_arms, arm}

-- the nodes of the forms that have two sides
choice-keeps : (sender : Sender) (branches : List Branch) → TypeKeeps (choice_node sender branches)
choice-keeps side.Provider branches = plain-type _ refl refl
choice-keeps side.Client branches = plain-type _ refl refl

channel-keeps : (sender : Sender) (carried goes : TypeId) → TypeKeeps (channel_node sender carried goes)
channel-keeps side.Provider carried goes = plain-type _ refl refl
channel-keeps side.Client carried goes = plain-type _ refl refl

value-keeps : (sender : Sender) (kind : Kind) (goes : TypeId) → IsShallow kind → TypeKeeps (value_node sender kind goes)
value-keeps side.Provider kind goes h = record { kinds = all-one IsShallow kind h; amounts = All-nil IsAmount }
value-keeps side.Client kind goes h = record { kinds = all-one IsShallow kind h; amounts = All-nil IsAmount }

paying-keeps : (sender : Sender) (amount : Amount) (goes : TypeId) → IsAmount amount
    → TypeKeeps (paying_node sender amount goes)
paying-keeps side.Provider amount goes h = record { kinds = All-nil IsShallow; amounts = all-one IsAmount amount h }
paying-keeps side.Client amount goes h = record { kinds = All-nil IsShallow; amounts = all-one IsAmount amount h }

mutual
  unfolding build_type build_branches in_type in_branches

  pub type-makes : (types : Names) (s : Built) (t : TypeTree)
      → Makes (KeepsType t) s (in_type t) (build_type types s t).0
  type-makes types s (one at) =
      makes-type (omega arith) (omega arith) (makes-nothing _ s) _ at (λ k few. plain-type _ refl refl)
  type-makes types s (named n) =
      makes-type (omega arith) (omega arith) (makes-nothing _ s) _ n.at (λ k few. plain-type _ refl refl)
  type-makes types s (choice sender at branches) =
      makes-type (omega arith) (omega arith) (branches-makes types s branches) _ at
      (λ k few. choice-keeps sender (build_branches types s branches).1)
  type-makes types s (channel sender at carried goes) =
      let v = build_type types s carried in
      makes-type (omega arith) (omega arith) (makes-both (type-makes types s carried) (type-makes types v.0 goes)) _ at
      (λ k few. channel-keeps sender v.1 (build_type types v.0 goes).1)
  type-makes types s (valued sender at value goes) =
      makes-type (omega arith) (omega arith) (makes-under (λ k. k.1) (type-makes types s goes)) _ at
      (λ k few. value-keeps sender (kind_of value) (build_type types s goes).1 k.0)
  type-makes types s (paying sender at potential goes) =
      let v = amount_of s potential in
      let rest = type-makes types v.0 goes in
      makes-type (omega arith) (omega arith) (makes-both (makes-amount s potential) rest) _ at
      (λ k few. paying-keeps sender v.1 (build_type types v.0 goes).1 (amount-small s potential k.0 (omega arith)))
  type-makes types s (going_up at goes) =
      makes-type (omega arith) (omega arith) (type-makes types s goes) _ at (λ k few. plain-type _ refl refl)
  type-makes types s (going_down at goes) =
      makes-type (omega arith) (omega arith) (type-makes types s goes) _ at (λ k few. plain-type _ refl refl)
  type-makes types s (grouped inner) = type-makes types s inner

  branches-makes : (types : Names) (s : Built) (bs : BranchTrees)
      → Makes (KeepsBranches bs) s (in_branches bs) (build_branches types s bs).0
  branches-makes types s no_branches = makes-nothing _ s
  branches-makes types s (branch l goes branches) =
      let v = with_label s l in
      makes-within (omega arith) (omega arith)
      (makes-under (λ k. (k.0, (k.1, k.2)))
      (makes-both (makes-label s l)
      (makes-both (type-makes types v goes) (branches-makes types (build_type types v goes).0 branches))))

operator-plain : (operator : Operator) (at : ℕ) (a b : TermId) → term_kinds (operator_node operator at a b) ≡ []
operator-plain op.Or at a b = refl
operator-plain op.And at a b = refl
operator-plain op.Less at a b = refl
operator-plain op.Equal at a b = refl
operator-plain op.Cons at a b = refl
operator-plain op.Add at a b = refl
operator-plain op.Sub at a b = refl
operator-plain op.Mul at a b = refl
operator-plain op.Div at a b = refl
operator-plain op.Rem at a b = refl

operator-keeps : (operator : Operator) (at : ℕ) (a b : TermId) → TermKeeps (operator_node operator at a b)
operator-keeps operator at a b = rw (operator-plain operator at a b) (All-nil IsShallow)

mutual
  unfolding build_term build_terms in_term in_terms

  pub term-makes : (functions : Names) (s : Built) (t : TermTree)
      → Makes (KeepsTerm t) s (in_term t) (build_term functions s t).0
  term-makes functions s (number at value) =
      makes-term (omega arith) (omega arith) (makes-nothing _ s) _ (λ k. All-nil IsShallow)
  term-makes functions s (truth at value) =
      makes-term (omega arith) (omega arith) (makes-nothing _ s) _ (λ k. All-nil IsShallow)
  term-makes functions s (me at) =
      makes-term (omega arith) (omega arith) (makes-nothing _ s) _ (λ k. All-nil IsShallow)
  term-makes functions s (variable n) =
      makes-term (omega arith) (omega arith) (makes-nothing _ s) _ (λ k. All-nil IsShallow)
  term-makes functions s (application f arguments) =
      makes-term (omega arith) (omega arith) (makes-under (λ k. k.1) (terms-makes functions s arguments)) _
      (λ k. All-nil IsShallow)
  term-makes functions s (no_items at element) =
      makes-term (omega arith) (omega arith) (makes-nothing _ s) _ (λ k. all-one IsShallow (kind_of element) k)
  term-makes functions s (binary operator at left right) =
      let a = build_term functions s left in
      let b = build_term functions a.0 right in
      makes-term (omega arith) (omega arith)
      (makes-both (term-makes functions s left) (term-makes functions a.0 right)) _
      (λ k. operator-keeps operator at a.1 b.1)
  term-makes functions s (negation at inner) =
      makes-term (omega arith) (omega arith) (term-makes functions s inner) _ (λ k. All-nil IsShallow)
  term-makes functions s (choosing at test holds fails) =
      let t = build_term functions s test in
      let a = build_term functions t.0 holds in
      makes-term (omega arith) (omega arith)
      (makes-under (λ k. (k.0, (k.1, k.2)))
      (makes-both (term-makes functions s test)
      (makes-both (term-makes functions t.0 holds) (term-makes functions a.0 fails)))) _
      (λ k. All-nil IsShallow)
  term-makes functions s (matching at matched empty head tail more) =
      let l = build_term functions s matched in
      let a = build_term functions l.0 empty in
      let one = with_variable a.0 head in
      makes-term (omega arith) (omega arith)
      (makes-under (λ k. (k.0, (k.1, (k.2, (k.3, k.4)))))
      (makes-both (term-makes functions s matched)
      (makes-both (term-makes functions l.0 empty)
      (makes-both (makes-variable (KeepsName head) a.0 head)
      (makes-both (makes-variable (KeepsName tail) one tail)
      (term-makes functions (with_variable one tail) more)))))) _
      (λ k. All-nil IsShallow)
  term-makes functions s (parenthesized inner) = term-makes functions s inner

  terms-makes : (functions : Names) (s : Built) (ts : TermTrees)
      → Makes (KeepsTerms ts) s (in_terms ts) (build_terms functions s ts).0
  terms-makes functions s no_terms = makes-nothing _ s
  terms-makes functions s (term first rest) =
      makes-both (term-makes functions s first) (terms-makes functions (build_term functions s first).0 rest)

-- arguments
argument-makes : (spaces : Spaces) (s : Built) (o : Option NameAt) (t : TermTree)
    → Makes (KeepsTerm t) s (in_term t) (build_unless_list spaces s o t).0
argument-makes spaces s None t = term-makes spaces.functions s t
argument-makes spaces s (Some n) t = makes-within (omega arith) (omega arith) (makes-nothing _ s)

values-makes : (spaces : Spaces) (scope : Scope) (s : Built) (ts : List TermTree)
    → Makes (Each KeepsTerm ts) s (in_each in_term ts) (build_values spaces scope s ts).0
values-makes spaces scope s [] = makes-nothing _ s
values-makes spaces scope s (t ∷ terms) =
    makes-both (argument-makes spaces s (list_argument scope t) t)
    (values-makes spaces scope (build_argument spaces scope s t).0 terms)

arguments-makes : (spaces : Spaces) (scope : Scope) (s : Built) (a : ArgTrees)
    → Makes (KeepsArgs a) s (in_args a) (build_arguments spaces scope s a).0
arguments-makes spaces scope s a = makes-under (λ k. k.0) (values-makes spaces scope s a.values)

-- What a step makes before its node, and that its node is within the limits.
record StepMakes (Kept : Type 0) (s : Built) (c : Count) (made : Built × (CodeId → CodeNode)) : Type 0 where
  parts : Count
  makes : Makes Kept s parts made.0
  nodes : parts.nodes + 1 ≤ c.nodes
  stars : parts.stars ≤ c.stars
  keeps : (next : CodeId) → Kept → made.0.stars ≤ star_limit → CodeKeeps (made.1 next)

-- a step whose node has neither amount nor kind
plain-step : {K : Type 0} {s : Built} {p c : Count} {made : Built × (CodeId → CodeNode)} → Makes K s p made.0
    → p.nodes + 1 ≤ c.nodes → p.stars ≤ c.stars → ((next : CodeId) → code_kinds (made.1 next) ≡ [])
    → ((next : CodeId) → code_amounts (made.1 next) ≡ []) → StepMakes K s c made
plain-step {K} {s} {p} {c} {made} m n q kinds amounts = record {
  parts = p;
  makes = m;
  nodes = n;
  stars = q;
  keeps = λ next k few. plain-code (made.1 next) (kinds next) (amounts next);
}

amount-keeps : (n : CodeNode) (amount : Amount) → code_kinds n ≡ [] → code_amounts n ≡ amount ∷ [] → IsAmount amount
    → CodeKeeps n
amount-keeps n amount k a h = record {
  kinds = rw k (All-nil IsShallow);
  amounts = rw a (all-one IsAmount amount h);
}

step-makes : (spaces : Spaces) (scope : Scope) (s : Built) (step : StepTree)
    → StepMakes (KeepsStep step) s (in_step step) (build_step spaces scope s step)
step-makes spaces scope s (label x l) =
    plain-step (makes-under (λ k. k.1) (makes-label s l)) (omega arith) (omega arith) (λ next. refl) (λ next. refl)
step-makes spaces scope s (send at x y) =
    plain-step (makes-nothing _ s) (omega arith) (omega arith) (λ next. refl) (λ next. refl)
step-makes spaces scope s (recv at x y) =
    plain-step (makes-variable _ s y) (omega arith) (omega arith) (λ next. refl) (λ next. refl)
step-makes spaces scope s (put at x e) =
    plain-step (makes-under (λ k. k.1) (term-makes spaces.functions s e)) (omega arith) (omega arith) (λ next. refl)
    (λ next. refl)
step-makes spaces scope s (taking at x v) =
    plain-step (makes-variable _ s v) (omega arith) (omega arith) (λ next. refl) (λ next. refl)
step-makes spaces scope s (pay at x q) = record {
  parts = _;
  makes = makes-under (λ k. k.1) (makes-amount s q);
  nodes = omega arith;
  stars = omega arith;
  keeps = λ next k few. amount-keeps _ (amount_of s q).1 refl refl (amount-small s q k.1 few);
}
step-makes spaces scope s (getting at x q) = record {
  parts = _;
  makes = makes-under (λ k. k.1) (makes-amount s q);
  nodes = omega arith;
  stars = omega arith;
  keeps = λ next k few. amount-keeps _ (amount_of s q).1 refl refl (amount-small s q k.1 few);
}
step-makes spaces scope s (work at q) = record {
  parts = _;
  makes = makes-amount s q;
  nodes = omega arith;
  stars = omega arith;
  keeps = λ next k few. amount-keeps _ (amount_of s q).1 refl refl (amount-small s q k few);
}
step-makes spaces scope s (wait at x) =
    plain-step (makes-nothing _ s) (omega arith) (omega arith) (λ next. refl) (λ next. refl)
step-makes spaces scope s (accept at) =
    plain-step (makes-nothing _ s) (omega arith) (omega arith) (λ next. refl) (λ next. refl)
step-makes spaces scope s (detach at) =
    plain-step (makes-nothing _ s) (omega arith) (omega arith) (λ next. refl) (λ next. refl)
step-makes spaces scope s (acquire at a x) =
    plain-step (makes-variable _ s x) (omega arith) (omega arith) (λ next. refl) (λ next. refl)
step-makes spaces scope s (release at x a) =
    plain-step (makes-variable _ s a) (omega arith) (omega arith) (λ next. refl) (λ next. refl)
step-makes spaces scope s (spawn at x f arguments) =
    plain-step
    (makes-under (λ k. (k.0, k.2))
    (makes-both (makes-variable (KeepsName x) s x) (arguments-makes spaces scope (with_variable s x) arguments)))
    (omega arith) (omega arith) (λ next. refl) (λ next. refl)
step-makes spaces scope s (binding at v e) =
    plain-step
    (makes-both (makes-variable (KeepsName v) s v) (term-makes spaces.functions (with_variable s v) e))
    (omega arith) (omega arith) (λ next. refl) (λ next. refl)
step-makes spaces scope s (empty_list at v list_at q t) = record {
  parts = _;
  makes =
      makes-under (λ k. (k.0, k.1)) (makes-both (makes-variable (KeepsName v) s v)
      (makes-amount (with_variable s v) q));
  nodes = omega arith;
  stars = omega arith;
  keeps = λ next k few. record {
    kinds = all-one IsShallow (kind_of t) k.2;
    amounts = all-one IsAmount (amount_of (with_variable s v) q).1 (amount-small (with_variable s v) q k.1 few);
  };
}
step-makes spaces scope s (longer_list at v e w) =
    plain-step
    (makes-under (λ k. (k.0, k.1))
    (makes-both (makes-variable (KeepsName v) s v) (term-makes spaces.functions (with_variable s v) e)))
    (omega arith) (omega arith) (λ next. refl) (λ next. refl)
step-makes spaces scope s (emit at e) =
    plain-step (term-makes spaces.functions s e) (omega arith) (omega arith) (λ next. refl) (λ next. refl)

-- steps before a last instruction that makes no more than its count
steps-makes : (model : CostModel) (spaces : Spaces) (scope : Scope) (s : Built) (steps : List StepTree)
    (last : Scope → Built → Built × CodeId) (L : Type 0) (c : Count)
    → ((inner : Scope) (made : Built) → Makes L made c (last inner made).0)
    → Makes (Each KeepsStep steps × L) s (in_each in_step steps ⊕ c) (build_steps model spaces scope s steps last).0
steps-makes model spaces scope s [] last L c h =
    makes-within (omega arith) (omega arith) (makes-under (λ k. k.1) (h scope s))
steps-makes model spaces scope s (step ∷ steps) last L c h =
    let made = build_step spaces scope s step in
    let first = step-makes spaces scope s step in
    let rest = steps-makes model spaces (scope_after scope step) made.0 steps last L c h in
    makes-code model (omega arith) (omega arith)
    (makes-under (λ k. (k.0.0, (k.0.1, k.1))) (makes-both first.makes rest))
    (made.1 (build_steps model spaces (scope_after scope step) made.0 steps last).1)
    (λ k few. first.keeps (build_steps model spaces (scope_after scope step) made.0 steps last).1 k.0.0 (omega arith))

mutual
  unfolding build_code build_last build_arms in_code in_last in_arms

  pub code-makes : (model : CostModel) (spaces : Spaces) (scope : Scope) (s : Built) (c : CodeTree)
      → Makes (KeepsCode c) s (in_code c) (build_code model spaces scope s c).0
  code-makes model spaces scope s (code steps last) =
      steps-makes model spaces scope s steps (λ inner made. build_last model spaces inner made last) (KeepsLast last)
      (in_last last) (λ inner made. last-makes model spaces inner made last)

  last-makes : (model : CostModel) (spaces : Spaces) (scope : Scope) (s : Built) (l : LastTree)
      → Makes (KeepsLast l) s (in_last l) (build_last model spaces scope s l).0
  last-makes model spaces scope s (close at) =
      makes-code model (omega arith) (omega arith) (makes-nothing _ s) _ (λ k few. plain-code _ refl refl)
  last-makes model spaces scope s (fwd at x) =
      makes-code model (omega arith) (omega arith) (makes-nothing _ s) _ (λ k few. plain-code _ refl refl)
  last-makes model spaces scope s (calling at f arguments) =
      makes-code model (omega arith) (omega arith) (makes-under (λ k. k.1) (arguments-makes spaces scope s arguments)) _
      (λ k few. plain-code _ refl refl)
  last-makes model spaces scope s (code_if at test holds fails) =
      let t = (build_value spaces s test).0 in
      let a = (build_code model spaces scope t holds).0 in
      makes-code model (omega arith) (omega arith)
      (makes-under (λ k. (k.0, (k.1, k.2)))
      (makes-both (term-makes spaces.functions s test)
      (makes-both (code-makes model spaces scope t holds) (code-makes model spaces scope a fails)))) _
      (λ k few. plain-code _ refl refl)
  last-makes model spaces scope s (case at x arms) =
      makes-code model (omega arith) (omega arith) (makes-under (λ k. k.1) (arms-makes model spaces scope s arms)) _
      (λ k few. plain-code _ refl refl)
  last-makes model spaces scope s (code_match at w empty head tail more) =
      let a = (build_code model spaces scope s empty).0 in
      let one = with_variable a head in
      let two = with_variable one tail in
      makes-code model (omega arith) (omega arith)
      (makes-under (λ k. (k.1, (k.2, (k.3, k.4))))
      (makes-both (code-makes model spaces scope s empty)
      (makes-both (makes-variable (KeepsName head) a head)
      (makes-both (makes-variable (KeepsName tail) one tail)
      (code-makes model spaces (matched_list scope head tail) two more))))) _
      (λ k few. plain-code _ refl refl)

  arms-makes : (model : CostModel) (spaces : Spaces) (scope : Scope) (s : Built) (arms : ArmTrees)
      → Makes (KeepsArms arms) s (in_arms arms) (build_arms model spaces scope s arms).0
  arms-makes model spaces scope s no_arms = makes-nothing _ s
  arms-makes model spaces scope s (arm l goes arms) =
      let v = with_label s l in
      makes-within (omega arith) (omega arith)
      (makes-under (λ k. (k.0, (k.1, k.2)))
      (makes-both (makes-label s l)
      (makes-both (code-makes model spaces scope v goes)
      (arms-makes model spaces scope (build_code model spaces scope v goes).0 arms))))
