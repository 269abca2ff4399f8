-- What the code makes of a step, and where it ends early, is what the definitions say.
use Rattle.std.proofs.Common.{◌≡◌, List, [], ◌∷◌, ◌++◌, map, Option, Some, None, refl}
use Rattle.std.specs.List.{flat_map}
use Rattle.nomos_elaborate.proofs.CheckedLaws.{demand-then, law-then, law-last, new-then, bind-then, Bounds, bounds-none, bounds-bind}
use Rattle.nomos_elaborate.proofs.NameClaimLaws.{AllHold, first_holds, right_hold}
use Rattle.nomos_elaborate.proofs.TermLaws.{term_law}
use Rattle.nomos_elaborate.specs.Built.{Built, variable_id}
use Rattle.nomos_elaborate.specs.NameClaim.{declared, bound_channel, bound_list, new_on_way, chan_claims}
use Rattle.nomos_elaborate.specs.CodeBuild.{build_step, build_value, build_unless_list, build_argument, build_values, build_arguments, chan_of, process_id}
use Rattle.nomos_elaborate.specs.CodeClaims.{Place, value_claims, unless_list, argument_claims, arguments_claims, step_claims, scope_after}
use Rattle.nomos_elaborate.specs.ListArgument.{list_argument}
use Rattle.nomos_elaborate.specs.Scope.{Scope}
use Rattle.nomos_elaborate.specs.declared.elaborator.Elaborator.{Elaborator}
use Rattle.nomos_elaborate.specs.declared.sort.Sort.TheVariants as sort
use Rattle.nomos_elaborate.specs.declared.spaces.Spaces.{Spaces}
use Rattle.nomos_elaborate.specs.mirror.Agrees.{where_all_hold}
use Rattle.nomos_elaborate.specs.mirror.CodeCheck.{check_channel, check_list, check_chan, check_process, check_unless_list, check_argument, check_passed, check_arguments, check_step, no_code}
use Rattle.nomos_elaborate.specs.mirror.Each.{each}
use Rattle.nomos_elaborate.specs.mirror.Following.{with_next}
use Rattle.nomos_elaborate.specs.mirror.Work.{made, variable_seen}
use Rattle.nomos_ir.specs.declared.code_node.Args.{Args}
use Rattle.nomos_ir.specs.declared.code_node.CodeNode.{CodeNode}
use Rattle.nomos_ir.specs.declared.code_node.ValueArg.{ValueArg}
use Rattle.nomos_ir.specs.declared.ids.CodeId.{CodeId}
use Rattle.nomos_ir.specs.declared.ids.TermId.{TermId}
use Rattle.nomos_surface.specs.declared.name_at.NameAt.{NameAt}
use Rattle.nomos_surface.specs.declared.steps.ChanAt.{ChanAt}
use Rattle.nomos_surface.specs.declared.steps.ChanAt.TheVariants as chan
use Rattle.nomos_surface.specs.Tree.{TermTree, ArgTrees, StepTree, label, send, recv, put, taking, pay, getting, work, wait, accept, detach, acquire, release, spawn, binding, empty_list, longer_list, emit}

-- where the walk is
abbrev pub place_of : Elaborator → Place
place_of w = record { spaces = w.spaces; inside = w.inside }

abbrev pub value_built : Elaborator → TermTree → Elaborator × TermId
value_built w t = made w (build_value w.spaces w.built t)

pub channel_law : (w : Elaborator) (n : NameAt)
    → check_channel w n ≡ where_all_hold (bound_channel w.scope n ∷ []) (variable_id w.built n)
channel_law w n = demand-then (bound_channel w.scope n) [] _ _ (λ h. refl)

pub list_law : (w : Elaborator) (n : NameAt)
    → check_list w n ≡ where_all_hold (bound_list w.scope n ∷ []) (variable_id w.built n)
list_law w n = demand-then (bound_list w.scope n) [] _ _ (λ h. refl)

pub chan_law : (w : Elaborator) (x : ChanAt)
    → check_chan w x ≡ where_all_hold (chan_claims w.scope x) (chan_of w.built x)
chan_law w (chan.Own at) = refl
chan_law w (chan.Variable n) =
    law-last (variable_id w.built n) _ _ _ (bound_channel w.scope n ∷ []) (channel_law w n) refl

pub process_law : (w : Elaborator) (f : NameAt)
    → check_process w f ≡ where_all_hold (declared w.spaces.processes f ∷ []) (process_id w.spaces f)
process_law w f = demand-then (declared w.spaces.processes f) [] _ _ (λ h. refl)

-- arguments
unless_law : (w : Elaborator) (o : Option NameAt) (t : TermTree)
    → check_unless_list w o t ≡ where_all_hold (unless_list o (value_claims (place_of w) w.scope t))
    (made w (build_unless_list w.spaces w.built o t))
unless_law w None t = law-last (value_built w t) _ _ _ (value_claims (place_of w) w.scope t) (term_law w t) refl
unless_law w (Some n) t = refl

abbrev argument_built : Elaborator → TermTree → Elaborator × ValueArg
argument_built w t = made w (build_argument w.spaces w.scope w.built t)

argument_law : (w : Elaborator) (t : TermTree)
    → check_argument w t ≡ where_all_hold (argument_claims (place_of w) w.scope t) (argument_built w t)
argument_law w t = unless_law w (list_argument w.scope t) t

abbrev values_built : Elaborator → List TermTree → Elaborator × List ValueArg
values_built w ts = made w (build_values w.spaces w.scope w.built ts)

values_law : (w : Elaborator) (ts : List TermTree)
    → each check_argument w ts ≡ where_all_hold (flat_map (argument_claims (place_of w) w.scope) ts) (values_built w ts)
unfolding each
values_law w [] = refl
values_law w (t ∷ ts) =
    let v = (argument_built w t).0 in
    let more = flat_map (argument_claims (place_of w) w.scope) ts in
    law-then (argument_built w t) _ more _ _ (argument_claims (place_of w) w.scope t) (argument_law w t)
    (law-last (values_built v ts) _ _ _ more (values_law v ts) refl)

passed_law : (w : Elaborator) (ns : List NameAt)
    → each check_passed w ns ≡ where_all_hold (map (bound_channel w.scope) ns) (w, map (variable_id w.built) ns)
unfolding each
passed_law w [] = refl
passed_law w (n ∷ ns) =
    let more = map (bound_channel w.scope) ns in
    law-then (w, variable_id w.built n) _ more _ _ (bound_channel w.scope n ∷ [])
    (law-last (variable_id w.built n) _ _ _ (bound_channel w.scope n ∷ []) (channel_law w n) refl)
    (law-last (w, map (variable_id w.built) ns) _ _ _ more (passed_law w ns) refl)

abbrev pub arguments_built : Elaborator → ArgTrees → Elaborator × Args
arguments_built w a = made w (build_arguments w.spaces w.scope w.built a)

pub arguments_law : (w : Elaborator) (a : ArgTrees)
    → check_arguments w a ≡ where_all_hold (arguments_claims (place_of w) w.scope a) (arguments_built w a)
unfolding check_arguments
arguments_law w a =
    let v = (values_built w a.values).0 in
    let channels = map (bound_channel w.scope) a.channels in
    law-then (values_built w a.values) _ channels _ _ (flat_map (argument_claims (place_of w) w.scope) a.values)
    (values_law w a.values)
    (law-last (v, map (variable_id v.built) a.channels) _ _ _ channels (passed_law v a.channels) refl)

-- a step: what is bound and built behind it, and its node before no code
abbrev pub after_step : Elaborator → StepTree → Elaborator
after_step w s = record w { scope = scope_after w.scope s; built = (build_step w.spaces w.scope w.built s).0 }

abbrev pub step_built : Elaborator → StepTree → Elaborator × CodeNode
step_built w s = (after_step w s, (build_step w.spaces w.scope w.built s).1 no_code)

pub step_law : (w : Elaborator) (s : StepTree)
    → check_step w s ≡ where_all_hold (step_claims (place_of w) w.scope s) (step_built w s)
unfolding check_step
step_law w (label x l) = law-last (chan_of w.built x) _ _ _ (chan_claims w.scope x) (chan_law w x) refl
step_law w (send at x y) =
    law-then (chan_of w.built x) _ (bound_channel w.scope y ∷ []) _ _ (chan_claims w.scope x) (chan_law w x)
    (law-last (variable_id w.built y) _ _ _ (bound_channel w.scope y ∷ []) (channel_law w y) refl)
step_law w (recv at x y) =
    law-then (chan_of w.built x) _ (new_on_way w.scope y ∷ []) _ _ (chan_claims w.scope x) (chan_law w x)
    (bind-then w y sort.Channel [] _ _ (λ h. refl))
step_law w (put at x e) =
    law-then (chan_of w.built x) _ (value_claims (place_of w) w.scope e) _ _ (chan_claims w.scope x) (chan_law w x)
    (law-last (value_built w e) _ _ _ (value_claims (place_of w) w.scope e) (term_law w e) refl)
step_law w (taking at x v) =
    law-then (chan_of w.built x) _ (new_on_way w.scope v ∷ []) _ _ (chan_claims w.scope x) (chan_law w x)
    (bind-then w v sort.Value [] _ _ (λ h. refl))
step_law w (pay at x q) = law-last (chan_of w.built x) _ _ _ (chan_claims w.scope x) (chan_law w x) refl
step_law w (getting at x q) = law-last (chan_of w.built x) _ _ _ (chan_claims w.scope x) (chan_law w x) refl
step_law w (work at q) = refl
step_law w (wait at x) = law-last (variable_id w.built x) _ _ _ (bound_channel w.scope x ∷ []) (channel_law w x) refl
step_law w (accept at) = refl
step_law w (detach at) = refl
step_law w (acquire at a x) =
    law-then (variable_id w.built a) _ (new_on_way w.scope x ∷ []) _ _ (bound_channel w.scope a ∷ []) (channel_law w a)
    (bind-then w x sort.Channel [] _ _ (λ h. refl))
step_law w (release at x a) =
    law-then (variable_id w.built x) _ (new_on_way w.scope a ∷ []) _ _ (bound_channel w.scope x ∷ []) (channel_law w x)
    (bind-then w a sort.Channel [] _ _ (λ h. refl))
step_law w (spawn at x f arguments) =
    let v = (made w (variable_seen w.built x)).0 in
    let claims = arguments_claims (place_of w) w.scope arguments in
    new-then w x (declared w.spaces.processes f ∷ claims) _ _ (λ h.
    law-then (process_id w.spaces f) _ claims _ _ (declared w.spaces.processes f ∷ []) (process_law v f)
    (law-last (arguments_built v arguments) _ _ _ claims (arguments_law v arguments) refl))
step_law w (binding at x e) =
    let v = (made w (variable_seen w.built x)).0 in
    let claims = value_claims (place_of w) w.scope e in
    new-then w x claims _ _ (λ h. law-last (value_built v e) _ _ _ claims (term_law v e) refl)
step_law w (empty_list at x list_at q t) = new-then w x [] _ _ (λ h. refl)
step_law w (longer_list at x e l) =
    let v = (made w (variable_seen w.built x)).0 in
    let u = (value_built v e).0 in
    let claims = value_claims (place_of w) w.scope e in
    new-then w x (claims ++ bound_list w.scope l ∷ []) _ _ (λ h.
    law-then (value_built v e) _ (bound_list w.scope l ∷ []) _ _ claims (term_law v e)
    (law-last (variable_id u.built l) _ _ _ (bound_list w.scope l ∷ []) (list_law u l) refl))
step_law w (emit at e) = law-last (value_built w e) _ _ _ (value_claims (place_of w) w.scope e) (term_law w e) refl

-- what a step binds stands behind what was bound
pub step_bounds : (place : Place) (scope : Scope) (s : StepTree) → AllHold (step_claims place scope s)
    → Bounds scope (scope_after scope s)
step_bounds place scope (label x l) h = bounds-none scope
step_bounds place scope (send at x y) h = bounds-none scope
step_bounds place scope (recv at x y) h =
    bounds-bind scope scope y sort.Channel (bounds-none scope)
    (first_holds (new_on_way scope y) [] (right_hold (chan_claims scope x) (new_on_way scope y ∷ []) h))
step_bounds place scope (put at x e) h = bounds-none scope
step_bounds place scope (taking at x v) h =
    bounds-bind scope scope v sort.Value (bounds-none scope)
    (first_holds (new_on_way scope v) [] (right_hold (chan_claims scope x) (new_on_way scope v ∷ []) h))
step_bounds place scope (pay at x q) h = bounds-none scope
step_bounds place scope (getting at x q) h = bounds-none scope
step_bounds place scope (work at q) h = bounds-none scope
step_bounds place scope (wait at x) h = bounds-none scope
step_bounds place scope (accept at) h = bounds-none scope
step_bounds place scope (detach at) h = bounds-none scope
step_bounds place scope (acquire at a x) h =
    bounds-bind scope scope x sort.Channel (bounds-none scope)
    (first_holds (new_on_way scope x) [] (right_hold (bound_channel scope a ∷ []) (new_on_way scope x ∷ []) h))
step_bounds place scope (release at x a) h =
    bounds-bind scope scope a sort.Channel (bounds-none scope)
    (first_holds (new_on_way scope a) [] (right_hold (bound_channel scope x ∷ []) (new_on_way scope a ∷ []) h))
step_bounds place scope (spawn at x f arguments) h =
    bounds-bind scope scope x sort.Channel (bounds-none scope)
    (first_holds (new_on_way scope x) (declared place.spaces.processes f ∷ arguments_claims place scope arguments) h)
step_bounds place scope (binding at v e) h =
    bounds-bind scope scope v sort.Value (bounds-none scope)
    (first_holds (new_on_way scope v) (value_claims place scope e) h)
step_bounds place scope (empty_list at v list_at q t) h =
    bounds-bind scope scope v sort.List (bounds-none scope) (first_holds (new_on_way scope v) [] h)
step_bounds place scope (longer_list at v e w) h =
    bounds-bind scope scope v sort.List (bounds-none scope)
    (first_holds (new_on_way scope v) (value_claims place scope e ++ bound_list scope w ∷ []) h)
step_bounds place scope (emit at e) h = bounds-none scope

-- a step's node before any code
pub step_next : (spaces : Spaces) (scope : Scope) (s : Built) (step : StepTree) (next : CodeId)
    → with_next ((build_step spaces scope s step).1 no_code) next ≡ (build_step spaces scope s step).1 next
unfolding with_next
step_next spaces scope s (label x l) next = refl
step_next spaces scope s (send at x y) next = refl
step_next spaces scope s (recv at x y) next = refl
step_next spaces scope s (put at x e) next = refl
step_next spaces scope s (taking at x v) next = refl
step_next spaces scope s (pay at x q) next = refl
step_next spaces scope s (getting at x q) next = refl
step_next spaces scope s (work at q) next = refl
step_next spaces scope s (wait at x) next = refl
step_next spaces scope s (accept at) next = refl
step_next spaces scope s (detach at) next = refl
step_next spaces scope s (acquire at a x) next = refl
step_next spaces scope s (release at x a) next = refl
step_next spaces scope s (spawn at x f arguments) next = refl
step_next spaces scope s (binding at v e) next = refl
step_next spaces scope s (empty_list at v list_at q t) next = refl
step_next spaces scope s (longer_list at v e w) next = refl
step_next spaces scope s (emit at e) next = refl
