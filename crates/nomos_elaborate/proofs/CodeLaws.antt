-- What the code makes of a code, and where it ends early, is what the definitions say.
use Rattle.std.proofs.Common.{◌≡◌, List, [], ◌∷◌, ◌++◌, refl, ap, ◌∙◌, append_assoc}
use Rattle.nomos_elaborate.proofs.CheckedLaws.{demand-then, law-then, law-last, grouped-law, bind-then, now_bound, Bounds, bounds-none, bounds-bind, bounds-kept}
use Rattle.nomos_elaborate.proofs.NameClaimLaws.{AllHold, left_hold, right_hold, law-knowing}
use Rattle.nomos_elaborate.proofs.StepLaws.{place_of, value_built, channel_law, list_law, chan_law, process_law, arguments_built, arguments_law, after_step, step_built, step_law, step_bounds, step_next}
use Rattle.nomos_elaborate.proofs.TermLaws.{term_law}
use Rattle.nomos_elaborate.specs.Built.{Built, variable_id}
use Rattle.nomos_elaborate.specs.NameClaim.{NameClaim, declared, bound_channel, bound_list, new_on_way, new_among, chan_claims}
use Rattle.nomos_elaborate.specs.CodeBuild.{build_step, build_steps, build_code, build_last, build_arms, chan_of, process_id}
use Rattle.nomos_elaborate.specs.CodeClaims.{Place, value_claims, arguments_claims, step_claims, steps_claims, scope_after, scope_behind, matched_list, code_claims, last_claims, arm_claims}
use Rattle.nomos_elaborate.specs.CostModel.{put_code}
use Rattle.nomos_elaborate.specs.Names.{Names, seen}
use Rattle.nomos_elaborate.specs.Scope.{Scope, bind}
use Rattle.nomos_elaborate.specs.declared.elaborator.Elaborator.{Elaborator}
use Rattle.nomos_elaborate.specs.declared.sort.Sort.TheVariants as sort
use Rattle.nomos_elaborate.specs.declared.spaces.Spaces.{Spaces}
use Rattle.nomos_elaborate.specs.mirror.Agrees.{where_all_hold}
use Rattle.nomos_elaborate.specs.mirror.Checked.{Checked, found}
use Rattle.nomos_elaborate.specs.mirror.CodeCheck.{check_step, check_code, check_last, check_arm, check_arms, the_arm, no_code}
use Rattle.nomos_elaborate.specs.mirror.Each.{each}
use Rattle.nomos_elaborate.specs.mirror.Following.{put_before, with_next}
use Rattle.nomos_elaborate.specs.mirror.TypeCheck.{Labelled}
use Rattle.nomos_elaborate.specs.mirror.Work.{made, label_seen}
use Rattle.nomos_ir.specs.declared.code_node.Arm.{Arm}
use Rattle.nomos_ir.specs.declared.code_node.CodeNode.{CodeNode}
use Rattle.nomos_ir.specs.declared.ids.CodeId.{CodeId}
use Rattle.nomos_surface.specs.declared.name_at.NameAt.{NameAt}
use Rattle.nomos_surface.specs.declared.surface.CostModel.{CostModel}
use Rattle.nomos_surface.specs.Tree.{StepTree, CodeTree, code, LastTree, close, fwd, calling, code_if, case, code_match, ArmTrees, no_arms, arm}

-- what is built behind steps, and their nodes before no code
abbrev built_behind : Spaces → Scope → Built → List StepTree → Built
built_behind spaces scope s [] = s
built_behind spaces scope s (step ∷ steps) =
    built_behind spaces (scope_after scope step) (build_step spaces scope s step).0 steps

abbrev step_nodes : Spaces → Scope → Built → List StepTree → List CodeNode
step_nodes spaces scope s [] = []
step_nodes spaces scope s (step ∷ steps) =
    (build_step spaces scope s step).1 no_code ∷
    step_nodes spaces (scope_after scope step) (build_step spaces scope s step).0 steps

abbrev after_steps : Elaborator → List StepTree → Elaborator
after_steps w steps =
    record w { scope = scope_behind w.scope steps; built = built_behind w.spaces w.scope w.built steps }

abbrev steps_built : Elaborator → List StepTree → Elaborator × List CodeNode
steps_built w steps = (after_steps w steps, step_nodes w.spaces w.scope w.built steps)

steps_law : (w : Elaborator) (steps : List StepTree)
    → each check_step w steps ≡ where_all_hold (steps_claims (place_of w) w.scope steps) (steps_built w steps)
unfolding each
steps_law w [] = refl
steps_law w (s ∷ steps) =
    let v = after_step w s in
    let more = steps_claims (place_of w) v.scope steps in
    law-then (step_built w s) _ more _ _ (step_claims (place_of w) w.scope s) (step_law w s)
    (law-last (steps_built v steps) _ _ _ more (steps_law v steps) refl)

-- what steps bind stands behind what was bound
bounds-more : (a b c : Scope) → Bounds a b → Bounds b c → Bounds a c
bounds-more a b c f g =
    record { more = f.more ++ g.more; is = g.is ∙ ap (λ r. r ++ g.more) f.is ∙ append_assoc a f.more g.more }

steps_bounds : (place : Place) (scope : Scope) (steps : List StepTree) → AllHold (steps_claims place scope steps)
    → Bounds scope (scope_behind scope steps)
steps_bounds place scope [] h = bounds-none scope
steps_bounds place scope (s ∷ steps) h =
    let more = steps_claims place (scope_after scope s) steps in
    bounds-more scope (scope_after scope s) (scope_behind (scope_after scope s) steps)
    (step_bounds place scope s (left_hold (step_claims place scope s) more h))
    (steps_bounds place (scope_after scope s) steps (right_hold (step_claims place scope s) more h))

-- steps before what was built behind them
steps_put : (model : CostModel) (spaces : Spaces) (scope : Scope) (s : Built) (steps : List StepTree)
    (last : Scope → Built → Built × CodeId)
    → put_before model (step_nodes spaces scope s steps)
    (last (scope_behind scope steps) (built_behind spaces scope s steps)) ≡ build_steps model spaces scope s steps last
steps_put model spaces scope s [] last = refl
steps_put model spaces scope s (step ∷ steps) last =
    let made = build_step spaces scope s step in
    let inner = steps_put model spaces (scope_after scope step) made.0 steps last in
    let rest = build_steps model spaces (scope_after scope step) made.0 steps last in
    ap (λ (r : Built × CodeId). put_code model r.0 (with_next (made.1 no_code) r.1)) inner
    ∙ ap (put_code model rest.0) (step_next spaces scope s step rest.1)

abbrev code_built : Elaborator → CodeTree → Elaborator × CodeId
code_built w c = made w (build_code w.model w.spaces w.scope w.built c)

abbrev last_built : Elaborator → LastTree → Elaborator × CodeId
last_built w l = made w (build_last w.model w.spaces w.scope w.built l)

abbrev labels_behind : Names → ArmTrees → Names
labels_behind before no_arms = before
labels_behind before (arm l goes arms) = labels_behind (seen before l.name) arms

abbrev arms_built : Labelled → ArmTrees → Labelled × List Arm
arms_built v arms =
    let b = build_arms v.0.model v.0.spaces v.0.scope v.0.built arms in
    ((record v.0 { built = b.0 }, labels_behind v.1 arms), b.1)

-- a branch whose code gives what it is to give
arm_law : (goes : Elaborator → Checked (Elaborator × CodeId)) (v : Labelled) (l : NameAt) (claims : List NameClaim)
    (b : Elaborator × CodeId)
    → goes (made v.0 (label_seen v.0.built l)).0 ≡ where_all_hold claims b
    → check_arm goes v l ≡ where_all_hold (new_among v.1 l ∷ claims)
    (the_arm b (seen v.1 l.name) (label_seen v.0.built l).1)
arm_law goes v l claims b e = demand-then (new_among v.1 l) claims _ _ (λ h. law-last b _ _ _ claims e refl)

mutual
  unfolding check_code check_last check_arms code_claims last_claims arm_claims build_code build_last build_arms

  pub code_law : (w : Elaborator) (c : CodeTree)
      → check_code w c ≡ where_all_hold (code_claims (place_of w) w.scope c)
      (made w (build_code w.model w.spaces w.scope w.built c))
  code_law w (code steps last) =
      let v = after_steps w steps in
      let claims = last_claims (place_of w) v.scope last in
      let whole = code_built w (code steps last) in
      let put = steps_put w.model w.spaces w.scope w.built steps
      (λ inner made. build_last w.model w.spaces inner made last) in
      law-knowing (steps_built w steps) _ claims whole _ (steps_claims (place_of w) w.scope steps) (steps_law w steps)
      (λ h.
      law-last (last_built v last) _ whole _ claims (last_law v last)
      (λ i. found (
        record w {
          scope = bounds-kept w.scope v.scope (steps_bounds (place_of w) w.scope steps h) i;
          built = (put i).0;
        },
        (put i).1,
      )))

  last_law : (w : Elaborator) (l : LastTree)
      → check_last w l ≡ where_all_hold (last_claims (place_of w) w.scope l)
      (made w (build_last w.model w.spaces w.scope w.built l))
  last_law w (close at) = refl
  last_law w (fwd at x) = law-last (variable_id w.built x) _ _ _ (bound_channel w.scope x ∷ []) (channel_law w x) refl
  last_law w (calling at f arguments) =
      let claims = arguments_claims (place_of w) w.scope arguments in
      law-then (process_id w.spaces f) _ claims _ _ (declared w.spaces.processes f ∷ []) (process_law w f)
      (law-last (arguments_built w arguments) _ _ _ claims (arguments_law w arguments) refl)
  last_law w (code_if at test holds fails) =
      let c = code_claims (place_of w) w.scope in
      let v = (value_built w test).0 in
      let u = (code_built v holds).0 in
      let t = value_claims (place_of w) w.scope test in
      law-then (value_built w test) _ (c holds ++ c fails) _ _ t (term_law w test)
      (law-then (code_built v holds) _ (c fails) _ _ (c holds) (code_law v holds)
      (law-last (code_built u fails) _ _ _ (c fails) (code_law u fails) refl))
      ∙ grouped-law t (c holds) (c fails) _
  last_law w (case at x arms) =
      let claims = arm_claims (place_of w) w.scope [] arms in
      let b = arms_built (w, []) arms in
      law-then (chan_of w.built x) _ claims _ _ (chan_claims w.scope x) (chan_law w x)
      (law-last (b.0.0, b.1) _ _ _ claims (law-last b _ _ _ claims (arms_law (w, []) arms) refl) refl)
  last_law w (code_match at l empty head tail more) =
      let c = code_claims (place_of w) in
      let u = (code_built w empty).0 in
      let one = (now_bound u head sort.Value).0 in
      let two = (now_bound one tail sort.List).0 in
      let inner = c (matched_list w.scope head tail) more in
      let rest = new_on_way w.scope head ∷ new_on_way (bind w.scope head sort.Value) tail ∷ inner in
      let whole = last_built w (code_match at l empty head tail more) in
      law-then (variable_id w.built l) _ (c w.scope empty ++ rest) whole _ (bound_list w.scope l ∷ []) (list_law w l)
      (law-then (code_built w empty) _ rest whole _ (c w.scope empty) (code_law w empty)
      (bind-then u head sort.Value (new_on_way (bind w.scope head sort.Value) tail ∷ inner) _ whole (λ g.
      bind-then one tail sort.List inner _ whole (λ h.
      law-last (code_built two more) _ whole _ inner (code_law two more)
      (λ i. found (
        record whole.0 {
          scope = bounds-kept w.scope two.scope
              (bounds-bind w.scope one.scope tail sort.List
              (bounds-bind w.scope w.scope head sort.Value (bounds-none w.scope) g) h) i;
        },
        whole.1,
      ))))))

  arms_law : (v : Labelled) (arms : ArmTrees)
      → check_arms v arms ≡ where_all_hold (arm_claims (place_of v.0) v.0.scope v.1 arms) (arms_built v arms)
  arms_law v no_arms = refl
  arms_law v (arm l goes arms) =
      let place = place_of v.0 in
      let u = (made v.0 (label_seen v.0.built l)).0 in
      let b = code_built u goes in
      let next : Labelled = (b.0, seen v.1 l.name) in
      let claims = code_claims place v.0.scope goes in
      let more = arm_claims place v.0.scope (seen v.1 l.name) arms in
      law-then (the_arm b (seen v.1 l.name) (label_seen v.0.built l).1) _ more _ _ (new_among v.1 l ∷ claims)
      (arm_law (λ w. check_code w goes) v l claims b (code_law u goes))
      (law-last (arms_built next arms) _ _ _ more (arms_law next arms) refl)
