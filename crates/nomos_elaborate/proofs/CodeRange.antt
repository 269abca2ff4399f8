-- The ids in the nodes of a code are in range, where its claims hold.
use Rattle.std.proofs.Common.{◌≡◌, ℕ, ◌<◌, ◌≤◌, true, List, [], ◌∷◌, ◌++◌, length, map, Option, Some, None, refl, sym, subst, arith}
use Rattle.std.specs.List.{flat_map}
use Rattle.std.proofs.lemmas.List.Elements.{All-cons, All-append}
use Rattle.nomos_elaborate.proofs.BuiltRangeLaws.{CodeFits, InRange, CodeFits-more, none_below, one_below, two_below, Made, TermMade, CodeMade, AllBelow-le, Made-then, Made-same, variable_made, amount_made, label_made, label_below, code_put}
use Rattle.nomos_elaborate.proofs.NameClaimLaws.{AllHold, first_holds, rest_hold, left_hold, right_hold}
use Rattle.nomos_elaborate.proofs.NumberLaws.{number_of-lt}
use Rattle.nomos_elaborate.proofs.TypeRange.{term_made}
use Rattle.nomos_elaborate.specs.Built.{Built, with_label, with_variable, label_id, variable_id, amount_of}
use Rattle.nomos_elaborate.specs.NameClaim.{declared, new_among, new_on_way, bound_channel, bound_list, chan_claims}
use Rattle.nomos_elaborate.specs.CodeBuild.{chan_of, process_id, build_value, build_unless_list, build_argument, build_values, build_arguments, build_step, build_steps, build_code, build_last, build_arms}
use Rattle.nomos_elaborate.specs.CodeClaims.{Place, value_claims, unless_list, argument_claims, arguments_claims, step_claims, scope_after, steps_claims, scope_behind, matched_list, code_claims, last_claims, arm_claims}
use Rattle.nomos_elaborate.specs.ListArgument.{list_argument}
use Rattle.nomos_elaborate.specs.Names.{Names, seen}
use Rattle.nomos_elaborate.specs.Scope.{Scope, bind}
use Rattle.nomos_elaborate.specs.declared.sort.Sort.TheVariants as sort
use Rattle.nomos_elaborate.specs.declared.spaces.Spaces.{Spaces}
use Rattle.nomos_ir.specs.CodeParts.{arg_terms, code_next, code_terms, code_calls, code_labels}
use Rattle.nomos_ir.specs.Ids.{AllBelow}
use Rattle.nomos_ir.specs.declared.code_node.Arm.{Arm}
use Rattle.nomos_ir.specs.declared.code_node.CodeNode.{CodeNode}
use Rattle.nomos_ir.specs.declared.code_node.CodeNode.TheVariants as node
use Rattle.nomos_ir.specs.declared.code_node.ValueArg.{ValueArg}
use Rattle.nomos_ir.specs.declared.ids.CodeId.{CodeId}
use Rattle.nomos_surface.specs.declared.name_at.NameAt.{NameAt}
use Rattle.nomos_surface.specs.declared.surface.CostModel.{CostModel}
use Rattle.nomos_surface.specs.Tree.{TermTree, ArgTrees, StepTree, label, send, recv, put, taking, pay, getting, work, wait, accept, detach, acquire, release, spawn, binding, empty_list, longer_list, emit, CodeTree, code, LastTree, close, fwd, calling, code_if, case, code_match, ArmTrees, no_arms, arm}

-- an argument that is no channel, and several
pub record ArgumentMade (all : Spaces) (s : Built) (built : Built × ValueArg) : Type 0 where
  pub made : Made all s built.0
  pub below : AllBelow (length built.0.terms) (arg_terms built.1)

pub record ArgumentsMade (all : Spaces) (s : Built) (built : Built × List ValueArg) : Type 0 where
  pub made : Made all s built.0
  pub below : AllBelow (length built.0.terms) (flat_map arg_terms built.1)

-- a step, whose node may stand before any code
pub record StepMade (all : Spaces) (s : Built) (built : Built × (CodeId → CodeNode)) : Type 0 where
  pub made : Made all s built.0
  pub fits : (next : CodeId) (c : ℕ) → next.0 < c →
      CodeFits (length all.processes) c (length built.0.terms) (length built.0.labels) (built.1 next)

-- the node of a step has the code that follows in it, these terms, and nothing else
abbrev HasTerms : List ℕ → (CodeId → CodeNode) → Type 0
HasTerms terms step =
    (next : CodeId)
    → ((code_next (step next) ≡ next.0 ∷ []) × (code_terms (step next) ≡ terms))
    × ((code_calls (step next) ≡ []) × (code_labels (step next) ≡ []))

-- the branches of a `case`, with their labels
pub record ArmsMade (all : Spaces) (s : Built) (built : Built × List Arm) : Type 0 where
  pub made : Made all s built.0
  pub goes : AllBelow (length built.0.code) (map (λ a. a.goes.0) built.1)
  pub labels : AllBelow (length built.0.labels) (map (λ a. a.label.0) built.1)

module _ (place : Place) where
  abbrev all : Spaces
  all = place.spaces

  value_made : (scope : Scope) (s : Built) (t : TermTree) → AllHold (value_claims place scope t) → InRange all s
      → TermMade all s (build_value all s t)
  value_made scope s t hold r = term_made all place.inside scope s t hold r

  unless_list_made : (scope : Scope) (s : Built) (o : Option NameAt) (t : TermTree)
      → AllHold (unless_list o (value_claims place scope t)) → InRange all s
      → ArgumentMade all s (build_unless_list all s o t)
  unless_list_made scope s None t hold r =
      let h = value_made scope s t hold r in
      record { made = h.made; below = one_below _ _ h.below }
  unless_list_made scope s (Some n) t hold r = record { made = Made-same all s r; below = none_below _ }

  values_made : (scope : Scope) (s : Built) (ts : List TermTree) → AllHold (flat_map (argument_claims place scope) ts)
      → InRange all s → ArgumentsMade all s (build_values all scope s ts)
  values_made scope s [] hold r = record { made = Made-same all s r; below = none_below _ }
  values_made scope s (t ∷ terms) hold r =
      let a = build_argument all scope s t in
      let b = build_values all scope a.0 terms in
      let first = argument_claims place scope t in
      let more = flat_map (argument_claims place scope) terms in
      let h = unless_list_made scope s (list_argument scope t) t (left_hold first more hold) r in
      let i = values_made scope a.0 terms (right_hold first more hold) h.made.range in
      let longer : length a.0.terms ≤ length b.0.terms = i.made.longer.terms in
      record {
        made = Made-then all s a.0 b.0 h.made i.made;
        below =
            All-append (λ k. k < length b.0.terms) (arg_terms a.1) (flat_map arg_terms b.1)
            (AllBelow-le (length a.0.terms) (length b.0.terms) (arg_terms a.1) longer h.below) i.below;
      }

  arguments_made : (scope : Scope) (s : Built) (a : ArgTrees) → AllHold (arguments_claims place scope a)
      → InRange all s → ArgumentsMade all s (build_values all scope s a.values)
  arguments_made scope s a hold r =
      let values = flat_map (argument_claims place scope) a.values in
      values_made scope s a.values (left_hold values (map (bound_channel scope) a.channels) hold) r

  process_below : (f : NameAt) → (declared all.processes f).holds ≡ true → (process_id all f).0 < length all.processes
  process_below f hold = number_of-lt all.processes f.name hold

  -- a step without calls and labels
  plain_step : (s t : Built) (step : CodeId → CodeNode) (terms : List ℕ) → HasTerms terms step
      → AllBelow (length t.terms) terms → Made all s t → StepMade all s (t, step)
  plain_step s t step terms has below m = record {
    made = m;
    fits = λ next c h. record {
      next = subst (AllBelow c) (sym (has next).0.0) (one_below c next.0 h);
      terms = subst (AllBelow (length t.terms)) (sym (has next).0.1) below;
      calls = subst (AllBelow (length all.processes)) (sym (has next).1.0) (none_below (length all.processes));
      labels = subst (AllBelow (length t.labels)) (sym (has next).1.1) (none_below (length t.labels));
    };
  }

  -- a step without terms, and with one
  no_term : (s t : Built) (step : CodeId → CodeNode) → HasTerms [] step → Made all s t → StepMade all s (t, step)
  no_term s t step has m = plain_step s t step [] has (none_below (length t.terms)) m

  one_term : (s t : Built) (step : CodeId → CodeNode) (e : ℕ) → HasTerms (e ∷ []) step → e < length t.terms
      → Made all s t → StepMade all s (t, step)
  one_term s t step e has below m = plain_step s t step (e ∷ []) has (one_below (length t.terms) e below) m

  step_made : (scope : Scope) (s : Built) (step : StepTree) → AllHold (step_claims place scope step) → InRange all s
      → StepMade all s (build_step all scope s step)
  step_made scope s (label x l) hold r = record {
    made = label_made all s l r;
    fits = λ next c h. record {
      next = one_below c next.0 h;
      terms = none_below _;
      calls = none_below _;
      labels = one_below _ _ (label_below all s l);
    };
  }
  step_made scope s (send at x y) hold r = no_term s s _ (λ next. ((refl, refl), (refl, refl))) (Made-same all s r)
  step_made scope s (recv at x y) hold r =
      no_term s (with_variable s y) _ (λ next. ((refl, refl), (refl, refl))) (variable_made all s y r)
  step_made scope s (put at x e) hold r =
      let v = value_made scope s e (right_hold (chan_claims scope x) (value_claims place scope e) hold) r in
      one_term s (build_value all s e).0 _ _ (λ next. ((refl, refl), (refl, refl))) v.below v.made
  step_made scope s (taking at x v) hold r =
      no_term s (with_variable s v) _ (λ next. ((refl, refl), (refl, refl))) (variable_made all s v r)
  step_made scope s (pay at x q) hold r =
      no_term s (amount_of s q).0 _ (λ next. ((refl, refl), (refl, refl))) (amount_made all s q r)
  step_made scope s (getting at x q) hold r =
      no_term s (amount_of s q).0 _ (λ next. ((refl, refl), (refl, refl))) (amount_made all s q r)
  step_made scope s (work at q) hold r =
      no_term s (amount_of s q).0 _ (λ next. ((refl, refl), (refl, refl))) (amount_made all s q r)
  step_made scope s (wait at x) hold r = no_term s s _ (λ next. ((refl, refl), (refl, refl))) (Made-same all s r)
  step_made scope s (accept at) hold r = no_term s s _ (λ next. ((refl, refl), (refl, refl))) (Made-same all s r)
  step_made scope s (detach at) hold r = no_term s s _ (λ next. ((refl, refl), (refl, refl))) (Made-same all s r)
  step_made scope s (acquire at a x) hold r =
      no_term s (with_variable s x) _ (λ next. ((refl, refl), (refl, refl))) (variable_made all s x r)
  step_made scope s (release at x a) hold r =
      no_term s (with_variable s a) _ (λ next. ((refl, refl), (refl, refl))) (variable_made all s a r)
  step_made scope s (spawn at x f arguments) hold r =
      let bound = with_variable s x in
      let claims = arguments_claims place scope arguments in
      let behind = rest_hold (new_on_way scope x) (declared all.processes f ∷ claims) hold in
      let v = variable_made all s x r in
      let a = arguments_made scope bound arguments (rest_hold (declared all.processes f) claims behind) v.range in
      let called = process_below f (first_holds (declared all.processes f) claims behind) in
      record {
        made = Made-then all s bound (build_values all scope bound arguments.values).0 v a.made;
        fits = λ next c h. record {
          next = one_below c next.0 h;
          terms = a.below;
          calls = one_below _ _ called;
          labels = none_below _;
        };
      }
  step_made scope s (binding at v e) hold r =
      let bound = with_variable s v in
      let built = (build_value all bound e).0 in
      let w = variable_made all s v r in
      let t = value_made scope bound e (rest_hold (new_on_way scope v) (value_claims place scope e) hold) w.range in
      one_term s built _ _ (λ next. ((refl, refl), (refl, refl))) t.below (Made-then all s bound built w t.made)
  step_made scope s (empty_list at v list_at q t) hold r =
      let bound = with_variable s v in
      let paid = (amount_of bound q).0 in
      let w = variable_made all s v r in
      no_term s paid _ (λ next. ((refl, refl), (refl, refl)))
      (Made-then all s bound paid w (amount_made all bound q w.range))
  step_made scope s (longer_list at v e w) hold r =
      let bound = with_variable s v in
      let built = (build_value all bound e).0 in
      let claims = value_claims place scope e in
      let last = bound_list scope w ∷ [] in
      let u = variable_made all s v r in
      let front = left_hold claims last (rest_hold (new_on_way scope v) (claims ++ last) hold) in
      let t = value_made scope bound e front u.range in
      one_term s built _ _ (λ next. ((refl, refl), (refl, refl))) t.below (Made-then all s bound built u t.made)
  step_made scope s (emit at e) hold r =
      let v = value_made scope s e hold r in
      one_term s (build_value all s e).0 _ _ (λ next. ((refl, refl), (refl, refl))) v.below v.made

  -- steps before a last instruction that is made in what they bind and make
  steps_made : (model : CostModel) (scope : Scope) (s : Built) (steps : List StepTree)
      (last : Scope → Built → Built × CodeId)
      → AllHold (steps_claims place scope steps)
      → ((made : Built) → InRange all made → CodeMade all made (last (scope_behind scope steps) made))
      → InRange all s → CodeMade all s (build_steps model all scope s steps last)
  steps_made model scope s [] last hold ends r = ends s r
  steps_made model scope s (step ∷ steps) last hold ends r =
      let made = build_step all scope s step in
      let rest = build_steps model all (scope_after scope step) made.0 steps last in
      let claims = step_claims place scope step in
      let more = steps_claims place (scope_after scope step) steps in
      let h = step_made scope s step (left_hold claims more hold) r in
      let behind = scope_after scope step in
      let i = steps_made model behind made.0 steps last (right_hold claims more hold) ends h.made.range in
      let c = length rest.0.code in
      let e = length made.0.terms in
      let l = length made.0.labels in
      code_put all model s rest.0 (made.1 rest.1) (Made-then all s made.0 rest.0 h.made i.made)
      (CodeFits-more (length all.processes) c c e (length rest.0.terms) l (length rest.0.labels) (omega arith)
      i.made.longer.terms i.made.longer.labels (made.1 rest.1) (h.fits rest.1 c i.below))

mutual
  unfolding build_code build_last build_arms code_claims last_claims arm_claims

  pub code_made : (place : Place) (model : CostModel) (scope : Scope) (s : Built) (c : CodeTree)
      → AllHold (code_claims place scope c) → InRange place.spaces s
      → CodeMade place.spaces s (build_code model place.spaces scope s c)
  code_made place model scope s (code steps last) hold r =
      let claims = steps_claims place scope steps in
      let inner = scope_behind scope steps in
      let more = last_claims place inner last in
      steps_made place model scope s steps (λ inner made. build_last model place.spaces inner made last)
      (left_hold claims more hold) (λ made m. last_made place model inner made last (right_hold claims more hold) m) r

  last_made : (place : Place) (model : CostModel) (scope : Scope) (s : Built) (l : LastTree)
      → AllHold (last_claims place scope l) → InRange place.spaces s
      → CodeMade place.spaces s (build_last model place.spaces scope s l)
  last_made place model scope s (close at) hold r =
      code_put place.spaces model s s (node.Close at) (Made-same place.spaces s r)
      (record { next = none_below _; terms = none_below _; calls = none_below _; labels = none_below _ })
  last_made place model scope s (fwd at x) hold r =
      code_put place.spaces model s s (node.Fwd at (variable_id s x)) (Made-same place.spaces s r)
      (record { next = none_below _; terms = none_below _; calls = none_below _; labels = none_below _ })
  last_made place model scope s (calling at f arguments) hold r =
      let all = place.spaces in
      let built = build_arguments all scope s arguments in
      let claims = arguments_claims place scope arguments in
      let a = arguments_made place scope s arguments (rest_hold (declared all.processes f) claims hold) r in
      let called = process_below place f (first_holds (declared all.processes f) claims hold) in
      code_put all model s built.0 (node.Call at (process_id all f) built.1) a.made
      (record { next = none_below _; terms = a.below; calls = one_below _ _ called; labels = none_below _ })
  last_made place model scope s (code_if at test holds fails) hold r =
      let all = place.spaces in
      let t = build_value all s test in
      let a = build_code model all scope t.0 holds in
      let b = build_code model all scope a.0 fails in
      let tests = value_claims place scope test in
      let ones = code_claims place scope holds in
      let others = code_claims place scope fails in
      let front = left_hold (tests ++ ones) others hold in
      let h = value_made place scope s test (left_hold tests ones front) r in
      let i = code_made place model scope t.0 holds (right_hold tests ones front) h.made.range in
      let j = code_made place model scope a.0 fails (right_hold (tests ++ ones) others hold) i.made.range in
      let tested : t.1.0 < length b.0.terms =
      let below = h.below in let first = i.made.longer.terms in let second = j.made.longer.terms in omega arith in
      let below : a.1.0 < length b.0.code = let below = i.below in let longer = j.made.longer.code in omega arith in
      code_put all model s b.0 (node.If at t.1 a.1 b.1)
      (Made-then all s a.0 b.0 (Made-then all s t.0 a.0 h.made i.made) j.made)
      (record {
        next = two_below _ a.1.0 b.1.0 below j.below;
        terms = one_below _ t.1.0 tested;
        calls = none_below _;
        labels = none_below _;
      })
  last_made place model scope s (case at x arms) hold r =
      let all = place.spaces in
      let built = build_arms model all scope s arms in
      let claims = right_hold (chan_claims scope x) (arm_claims place scope [] arms) hold in
      let h = arms_made place model scope s [] arms claims r in
      code_put all model s built.0 (node.Case at (chan_of s x) built.1) h.made
      (record { next = h.goes; terms = none_below _; calls = none_below _; labels = h.labels })
  last_made place model scope s (code_match at w empty head tail more) hold r =
      let all = place.spaces in
      let a = build_code model all scope s empty in
      let first = with_variable a.0 head in
      let second = with_variable first tail in
      let inner = matched_list scope head tail in
      let b = build_code model all inner second more in
      let empties = code_claims place scope empty in
      let mores = code_claims place inner more in
      let heads = new_on_way scope head in
      let tails = new_on_way (bind scope head sort.Value) tail in
      let behind = rest_hold (bound_list scope w) (empties ++ heads ∷ tails ∷ mores) hold in
      let full = right_hold empties (heads ∷ tails ∷ mores) behind in
      let last = rest_hold tails mores (rest_hold heads (tails ∷ mores) full) in
      let h = code_made place model scope s empty (left_hold empties (heads ∷ tails ∷ mores) behind) r in
      let v = variable_made all a.0 head h.made.range in
      let u = variable_made all first tail v.range in
      let i = code_made place model inner second more last u.range in
      let since = Made-then all a.0 second b.0 (Made-then all a.0 first second v u) i.made in
      let below : a.1.0 < length b.0.code = let below = h.below in let longer = since.longer.code in omega arith in
      let matched = node.Match at (variable_id s w) a.1 (variable_id first head) (variable_id second tail) b.1 in
      code_put all model s b.0 matched (Made-then all s a.0 b.0 h.made since)
      (record {
        next = two_below _ a.1.0 b.1.0 below i.below;
        terms = none_below _;
        calls = none_below _;
        labels = none_below _;
      })

  arms_made : (place : Place) (model : CostModel) (scope : Scope) (s : Built) (before : Names) (arms : ArmTrees)
      → AllHold (arm_claims place scope before arms) → InRange place.spaces s
      → ArmsMade place.spaces s (build_arms model place.spaces scope s arms)
  arms_made place model scope s before no_arms hold r =
      record { made = Made-same place.spaces s r; goes = none_below _; labels = none_below _ }
  arms_made place model scope s before (arm l goes arms) hold r =
      let all = place.spaces in
      let named = with_label s l in
      let a = build_code model all scope named goes in
      let b = build_arms model all scope a.0 arms in
      let ones = code_claims place scope goes in
      let others = arm_claims place scope (seen before l.name) arms in
      let rest = rest_hold (new_among before l) (ones ++ others) hold in
      let m = label_made all s l r in
      let h = code_made place model scope named goes (left_hold ones others rest) m.range in
      let i = arms_made place model scope a.0 (seen before l.name) arms (right_hold ones others rest) h.made.range in
      let part : a.1.0 < length b.0.code = let below = h.below in let longer = i.made.longer.code in omega arith in
      let spelled = label_below all s l in
      let label : (label_id named l).0 < length b.0.labels =
      let first = h.made.longer.labels in let second = i.made.longer.labels in omega arith in
      record {
        made = Made-then all s a.0 b.0 (Made-then all s named a.0 m h.made) i.made;
        goes = All-cons (λ k. k < length b.0.code) a.1.0 (map (λ a. a.goes.0) b.1) part i.goes;
        labels = All-cons (λ k. k < length b.0.labels) (label_id named l).0 (map (λ a. a.label.0) b.1) label i.labels;
      }
