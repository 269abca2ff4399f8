-- The labels of each `case` of a code differ.
use Rattle.std.proofs.Common.{◌≡◌, ℕ, List, [], ◌∷◌, ◌++◌, map, Option, Some, None, refl, ◌∙◌}
use Rattle.nomos_elaborate.proofs.NameClaimLaws.{AllHold, rest_hold, left_hold, right_hold}
use Rattle.nomos_elaborate.proofs.DistinctNameLaws.{AreNew, new-differ, none_differ, one_differs, Numbered, none, Numbered-seen, Numbered-differ}
use Rattle.nomos_elaborate.proofs.KeptLabelLaws.{labelled, KeepsLabels, keeps-none, keeps-then, keeps-same, keeps-label, keeps-put_code, amount-labelled, term-labelled}
use Rattle.nomos_elaborate.proofs.NumberLaws.{Grows-then}
use Rattle.nomos_elaborate.proofs.TypeLabelLaws.{new_is_out}
use Rattle.nomos_elaborate.specs.Built.{Built, with_label, with_variable, label_id, variable_id, amount_of}
use Rattle.nomos_elaborate.specs.NameClaim.{new_among, new_on_way, bound_list, chan_claims}
use Rattle.nomos_elaborate.specs.CodeBuild.{chan_of, process_id, build_value, build_unless_list, build_argument, build_values, build_arguments, build_step, build_steps, build_code, build_last, build_arms}
use Rattle.nomos_elaborate.specs.CodeClaims.{Place, value_claims, steps_claims, scope_after, scope_behind, matched_list, code_claims, last_claims, arm_claims}
use Rattle.nomos_elaborate.specs.ListArgument.{list_argument}
use Rattle.nomos_elaborate.specs.Names.{Names, seen}
use Rattle.nomos_elaborate.specs.Scope.{Scope, bind}
use Rattle.nomos_elaborate.specs.declared.sort.Sort.TheVariants as sort
use Rattle.nomos_elaborate.specs.declared.spaces.Spaces.{Spaces}
use Rattle.nomos_ir.specs.CodeParts.{code_labels}
use Rattle.nomos_ir.specs.Naming.{AllDiffer}
use Rattle.nomos_ir.specs.declared.code_node.CodeNode.TheVariants as node
use Rattle.nomos_ir.specs.declared.ids.CodeId.{CodeId}
use Rattle.nomos_surface.specs.declared.name_at.NameAt.{NameAt}
use Rattle.nomos_surface.specs.declared.surface.CostModel.{CostModel}
use Rattle.nomos_surface.specs.Tree.{TermTree, StepTree, label, send, recv, put, taking, pay, getting, work, wait, accept, detach, acquire, release, spawn, binding, empty_list, longer_list, emit, CodeTree, code, LastTree, close, fwd, calling, code_if, case, code_match, ArmTrees, no_arms, arm}

-- arguments have no labels
argument-labelled : (spaces : Spaces) (s : Built) (o : Option NameAt) (t : TermTree)
    → labelled (build_unless_list spaces s o t).0 ≡ labelled s
argument-labelled spaces s None t = term-labelled spaces.functions s t
argument-labelled spaces s (Some n) t = refl

values-labelled : (spaces : Spaces) (scope : Scope) (s : Built) (ts : List TermTree)
    → labelled (build_values spaces scope s ts).0 ≡ labelled s
values-labelled spaces scope s [] = refl
values-labelled spaces scope s (t ∷ terms) =
    values-labelled spaces scope (build_argument spaces scope s t).0 terms
    ∙ argument-labelled spaces s (list_argument scope t) t

-- a step leaves the labels as they are, or adds one
step-keeps : (spaces : Spaces) (scope : Scope) (s : Built) (step : StepTree)
    → KeepsLabels s (build_step spaces scope s step).0
step-keeps spaces scope s (label x l) = keeps-label s l
step-keeps spaces scope s (send at x y) = keeps-none s
step-keeps spaces scope s (recv at x y) = keeps-same s (with_variable s y) refl
step-keeps spaces scope s (put at x e) = keeps-same s (build_value spaces s e).0 (term-labelled spaces.functions s e)
step-keeps spaces scope s (taking at x v) = keeps-same s (with_variable s v) refl
step-keeps spaces scope s (pay at x q) = keeps-same s (amount_of s q).0 (amount-labelled s q.quantity)
step-keeps spaces scope s (getting at x q) = keeps-same s (amount_of s q).0 (amount-labelled s q.quantity)
step-keeps spaces scope s (work at q) = keeps-same s (amount_of s q).0 (amount-labelled s q.quantity)
step-keeps spaces scope s (wait at x) = keeps-none s
step-keeps spaces scope s (accept at) = keeps-none s
step-keeps spaces scope s (detach at) = keeps-none s
step-keeps spaces scope s (acquire at a x) = keeps-same s (with_variable s x) refl
step-keeps spaces scope s (release at x a) = keeps-same s (with_variable s a) refl
step-keeps spaces scope s (spawn at x f arguments) =
    keeps-same s (build_values spaces scope (with_variable s x) arguments.values).0
    (values-labelled spaces scope (with_variable s x) arguments.values)
step-keeps spaces scope s (binding at v e) =
    keeps-same s (build_value spaces (with_variable s v) e).0 (term-labelled spaces.functions (with_variable s v) e)
step-keeps spaces scope s (empty_list at v list_at q t) =
    keeps-same s (amount_of (with_variable s v) q).0 (amount-labelled (with_variable s v) q.quantity)
step-keeps spaces scope s (longer_list at v e w) =
    keeps-same s (build_value spaces (with_variable s v) e).0 (term-labelled spaces.functions (with_variable s v) e)
step-keeps spaces scope s (emit at e) = keeps-same s (build_value spaces s e).0 (term-labelled spaces.functions s e)

-- its node has one label or none
step-differs : (spaces : Spaces) (scope : Scope) (s : Built) (step : StepTree) (next : CodeId)
    → AllDiffer (code_labels ((build_step spaces scope s step).1 next))
step-differs spaces scope s (label x l) next = one_differs (label_id (with_label s l) l).0
step-differs spaces scope s (send at x y) next = none_differ
step-differs spaces scope s (recv at x y) next = none_differ
step-differs spaces scope s (put at x e) next = none_differ
step-differs spaces scope s (taking at x v) next = none_differ
step-differs spaces scope s (pay at x q) next = none_differ
step-differs spaces scope s (getting at x q) next = none_differ
step-differs spaces scope s (work at q) next = none_differ
step-differs spaces scope s (wait at x) next = none_differ
step-differs spaces scope s (accept at) next = none_differ
step-differs spaces scope s (detach at) next = none_differ
step-differs spaces scope s (acquire at a x) next = none_differ
step-differs spaces scope s (release at x a) next = none_differ
step-differs spaces scope s (spawn at x f arguments) next = none_differ
step-differs spaces scope s (binding at v e) next = none_differ
step-differs spaces scope s (empty_list at v list_at q t) next = none_differ
step-differs spaces scope s (longer_list at v e w) next = none_differ
step-differs spaces scope s (emit at e) next = none_differ

-- steps, before a last instruction that keeps the labels where it stands
steps-keep : (model : CostModel) (spaces : Spaces) (scope : Scope) (s : Built) (steps : List StepTree)
    → (last : Scope → Built → Built × CodeId)
    → ((made : Built) → KeepsLabels made (last (scope_behind scope steps) made).0)
    → KeepsLabels s (build_steps model spaces scope s steps last).0
steps-keep model spaces scope s [] last h = h s
steps-keep model spaces scope s (step ∷ steps) last h =
    let made = build_step spaces scope s step in
    let rest = build_steps model spaces (scope_after scope step) made.0 steps last in
    let behind = steps-keep model spaces (scope_after scope step) made.0 steps last h in
    keeps-then (keeps-then (step-keeps spaces scope s step) behind)
    (keeps-put_code model rest.0 (made.1 rest.1) (step-differs spaces scope s step rest.1))

-- the labels of a `case`, in order of text
abbrev arm_labels : ArmTrees → Names
arm_labels no_arms = []
arm_labels (arm l goes arms) = l.name ∷ arm_labels arms

arms-new : (place : Place) (scope : Scope) (before : Names) (arms : ArmTrees)
    → AllHold (arm_claims place scope before arms) → AreNew before (arm_labels arms)
unfolding arm_claims
arms-new place scope before no_arms h = tt
arms-new place scope before (arm l goes arms) h =
    let first = code_claims place scope goes in
    let more = arm_claims place scope (seen before l.name) arms in
    let rest = right_hold first more (rest_hold (new_among before l) (first ++ more) h) in
    (new_is_out before l (first ++ more) h, arms-new place scope (seen before l.name) arms rest)

-- what holds of the claims of the first branch, and of the others
arm-holds : (place : Place) (scope : Scope) (before : Names) (l : NameAt) (goes : CodeTree) (arms : ArmTrees)
    → AllHold (arm_claims place scope before (arm l goes arms))
    → AllHold (code_claims place scope goes) × AllHold (arm_claims place scope (seen before l.name) arms)
unfolding arm_claims
arm-holds place scope before l goes arms h =
    let first = code_claims place scope goes in
    let more = arm_claims place scope (seen before l.name) arms in
    let rest = rest_hold (new_among before l) (first ++ more) h in
    (left_hold first more rest, right_hold first more rest)

-- what holds of the claims of the two codes of a `match`
match-holds : (place : Place) (scope : Scope) (at : ℕ) (w : NameAt) (empty : CodeTree) (head tail : NameAt)
    → (more : CodeTree)
    → AllHold (last_claims place scope (code_match at w empty head tail more))
    → AllHold (code_claims place scope empty) × AllHold (code_claims place (matched_list scope head tail) more)
unfolding last_claims
match-holds place scope at w empty head tail more h =
    let first = code_claims place scope empty in
    let second = code_claims place (matched_list scope head tail) more in
    let named = new_on_way (bind scope head sort.Value) tail ∷ second in
    let behind = new_on_way scope head ∷ named in
    let rest = rest_hold (bound_list scope w) (first ++ behind) h in
    let later = rest_hold (new_on_way scope head) named (right_hold first behind rest) in
    (left_hold first behind rest, rest_hold (new_on_way (bind scope head sort.Value) tail) second later)

-- a code leaves the labels as they are, or adds some
mutual
  unfolding build_code build_last build_arms code_claims last_claims

  pub code-keeps : (model : CostModel) (spaces : Spaces) (place : Place) (scope : Scope) (s : Built) (c : CodeTree)
      → AllHold (code_claims place scope c) → KeepsLabels s (build_code model spaces scope s c).0
  code-keeps model spaces place scope s (code steps last) h =
      let claims = last_claims place (scope_behind scope steps) last in
      steps-keep model spaces scope s steps (λ inner made. build_last model spaces inner made last)
      (λ made.
      let hold = right_hold (steps_claims place scope steps) claims h in
      last-keeps model spaces place (scope_behind scope steps) made last hold)

  last-keeps : (model : CostModel) (spaces : Spaces) (place : Place) (scope : Scope) (s : Built) (l : LastTree)
      → AllHold (last_claims place scope l) → KeepsLabels s (build_last model spaces scope s l).0
  last-keeps model spaces place scope s (close at) h = keeps-put_code model s (node.Close at) none_differ
  last-keeps model spaces place scope s (fwd at x) h =
      keeps-put_code model s (node.Fwd at (variable_id s x)) none_differ
  last-keeps model spaces place scope s (calling at f arguments) h =
      let built = build_arguments spaces scope s arguments in
      keeps-then (keeps-same s built.0 (values-labelled spaces scope s arguments.values))
      (keeps-put_code model built.0 (node.Call at (process_id spaces f) built.1) none_differ)
  last-keeps model spaces place scope s (code_if at test holds fails) h =
      let t = build_value spaces s test in
      let a = build_code model spaces scope t.0 holds in
      let b = build_code model spaces scope a.0 fails in
      let tests = value_claims place scope test in
      let first = code_claims place scope holds in
      let second = code_claims place scope fails in
      let front = left_hold (tests ++ first) second h in
      let tested = keeps-same s t.0 (term-labelled spaces.functions s test) in
      keeps-then
      (keeps-then (keeps-then tested (code-keeps model spaces place scope t.0 holds (right_hold tests first front)))
      (code-keeps model spaces place scope a.0 fails (right_hold (tests ++ first) second h)))
      (keeps-put_code model b.0 (node.If at t.1 a.1 b.1) none_differ)
  last-keeps model spaces place scope s (case at x arms) h =
      let built = build_arms model spaces scope s arms in
      let hold = right_hold (chan_claims scope x) (arm_claims place scope [] arms) h in
      let differ = new-differ [] (arm_labels arms) (arms-new place scope [] arms hold) in
      keeps-then (arms-keep model spaces place scope [] s arms hold)
      (keeps-put_code model built.0 (node.Case at (chan_of s x) built.1)
      (Numbered-differ (arms-numbered model spaces place scope [] s arms hold) differ))
  last-keeps model spaces place scope s (code_match at w empty head tail more) h =
      let hold = match-holds place scope at w empty head tail more h in
      let a = build_code model spaces scope s empty in
      let one = with_variable a.0 head in
      let two = with_variable one tail in
      let b = build_code model spaces (matched_list scope head tail) two more in
      let whole = node.Match at (variable_id s w) a.1 (variable_id one head) (variable_id two tail) b.1 in
      keeps-then
      (keeps-then (keeps-then (code-keeps model spaces place scope s empty hold.0) (keeps-same a.0 two refl))
      (code-keeps model spaces place (matched_list scope head tail) two more hold.1))
      (keeps-put_code model b.0 whole none_differ)

  arms-keep : (model : CostModel) (spaces : Spaces) (place : Place) (scope : Scope) (before : Names) (s : Built)
      → (arms : ArmTrees) → AllHold (arm_claims place scope before arms)
      → KeepsLabels s (build_arms model spaces scope s arms).0
  arms-keep model spaces place scope before s no_arms h = keeps-none s
  arms-keep model spaces place scope before s (arm l goes arms) h =
      let hold = arm-holds place scope before l goes arms h in
      let first = (build_code model spaces scope (with_label s l) goes).0 in
      keeps-then (keeps-then (keeps-label s l) (code-keeps model spaces place scope (with_label s l) goes hold.0))
      (arms-keep model spaces place scope (seen before l.name) first arms hold.1)

  arms-numbered : (model : CostModel) (spaces : Spaces) (place : Place) (scope : Scope) (before : Names) (s : Built)
      → (arms : ArmTrees) → AllHold (arm_claims place scope before arms)
      → (let built = build_arms model spaces scope s arms in
      Numbered built.0.labels (map (λ a. a.label.0) built.1) (arm_labels arms))
  arms-numbered model spaces place scope before s no_arms h = none
  arms-numbered model spaces place scope before s (arm l goes arms) h =
      let hold = arm-holds place scope before l goes arms h in
      let first = (build_code model spaces scope (with_label s l) goes).0 in
      let here = code-keeps model spaces place scope (with_label s l) goes hold.0 in
      let later = arms-keep model spaces place scope (seen before l.name) first arms hold.1 in
      Numbered-seen s.labels l.name (Grows-then here.grows later.grows)
      (arms-numbered model spaces place scope (seen before l.name) first arms hold.1)
