-- The claims of a code. Each used channel, value and list is bound as what is wanted at its place, and each spawned and
-- called process is declared. Each binder's name is new on the way, and the labels of one `case` differ.
use Rattle.std.specs.Prelude.{Bool, List, [], ◌∷◌, ◌++◌, map, Option, Some, None}
use Rattle.std.specs.List.{flat_map}
use Rattle.nomos_elaborate.specs.NameClaim.{NameClaim, declared, new_among, bound_channel, bound_list, new_on_way, chan_claims}
use Rattle.nomos_elaborate.specs.ListArgument.{list_argument}
use Rattle.nomos_elaborate.specs.Names.{Names, seen}
use Rattle.nomos_elaborate.specs.Scope.{Scope, bind}
use Rattle.nomos_elaborate.specs.declared.spaces.Spaces.{Spaces}
use Rattle.nomos_elaborate.specs.TermClaims.{term_claims}
use Rattle.nomos_elaborate.specs.declared.sort.Sort.TheVariants as sort
use Rattle.nomos_surface.specs.declared.name_at.NameAt.{NameAt}
use Rattle.nomos_surface.specs.Tree.{TermTree, ArgTrees, StepTree, label, send, recv, put, taking, pay, getting, work, wait, accept, detach, acquire, release, spawn, binding, empty_list, longer_list, emit, CodeTree, code, LastTree, close, fwd, calling, code_if, case, code_match, ArmTrees, no_arms, arm}

-- where a code stands: the declared names, and whether it is inside a transaction
pub record Place : Type 0 where
  pub spaces : Spaces
  pub inside : Bool

-- a term of a code
abbrev pub value_claims : Place → Scope → TermTree → List NameClaim
value_claims place scope t = term_claims place.spaces.functions place.inside scope t

-- an argument that is no channel: a list that is handed over, or a term
abbrev pub unless_list : Option NameAt → List NameClaim → List NameClaim
unless_list None claims = claims
unless_list (Some n) claims = []

-- An argument that hands a list over claims nothing here, and any other claims what its term claims.
abbrev pub argument_claims : Place → Scope → TermTree → List NameClaim
argument_claims place scope t = unless_list (list_argument scope t) (value_claims place scope t)

-- Each value argument has its claims, and each channel that is handed over is bound as a channel.
abbrev pub arguments_claims : Place → Scope → ArgTrees → List NameClaim
arguments_claims place scope a =
    flat_map (argument_claims place scope) a.values ++ map (bound_channel scope) a.channels

-- What a step uses is bound as what it wants there, and a name that it binds is new on the way.
abbrev pub step_claims : Place → Scope → StepTree → List NameClaim
step_claims place scope (label x l) = chan_claims scope x
step_claims place scope (send at x y) = chan_claims scope x ++ bound_channel scope y ∷ []
step_claims place scope (recv at x y) = chan_claims scope x ++ new_on_way scope y ∷ []
step_claims place scope (put at x e) = chan_claims scope x ++ value_claims place scope e
step_claims place scope (taking at x v) = chan_claims scope x ++ new_on_way scope v ∷ []
step_claims place scope (pay at x q) = chan_claims scope x
step_claims place scope (getting at x q) = chan_claims scope x
step_claims place scope (work at q) = []
step_claims place scope (wait at x) = bound_channel scope x ∷ []
step_claims place scope (accept at) = []
step_claims place scope (detach at) = []
step_claims place scope (acquire at a x) = bound_channel scope a ∷ new_on_way scope x ∷ []
step_claims place scope (release at x a) = bound_channel scope x ∷ new_on_way scope a ∷ []
step_claims place scope (spawn at x f arguments) =
    new_on_way scope x ∷ declared place.spaces.processes f ∷ arguments_claims place scope arguments
step_claims place scope (binding at v e) = new_on_way scope v ∷ value_claims place scope e
step_claims place scope (empty_list at v list_at q t) = new_on_way scope v ∷ []
step_claims place scope (longer_list at v e w) =
    new_on_way scope v ∷ value_claims place scope e ++ bound_list scope w ∷ []
step_claims place scope (emit at e) = value_claims place scope e

-- what is bound behind a step: its own name is bound only there
abbrev pub scope_after : Scope → StepTree → Scope
scope_after scope (label x l) = scope
scope_after scope (send at x y) = scope
scope_after scope (recv at x y) = bind scope y sort.Channel
scope_after scope (put at x e) = scope
scope_after scope (taking at x v) = bind scope v sort.Value
scope_after scope (pay at x q) = scope
scope_after scope (getting at x q) = scope
scope_after scope (work at q) = scope
scope_after scope (wait at x) = scope
scope_after scope (accept at) = scope
scope_after scope (detach at) = scope
scope_after scope (acquire at a x) = bind scope x sort.Channel
scope_after scope (release at x a) = bind scope a sort.Channel
scope_after scope (spawn at x f arguments) = bind scope x sort.Channel
scope_after scope (binding at v e) = bind scope v sort.Value
scope_after scope (empty_list at v list_at q t) = bind scope v sort.List
scope_after scope (longer_list at v e w) = bind scope v sort.List
scope_after scope (emit at e) = scope

-- Each step makes its claims in the scope that the steps before it leave.
abbrev pub steps_claims : Place → Scope → List StepTree → List NameClaim
steps_claims place scope [] = []
steps_claims place scope (s ∷ steps) = step_claims place scope s ++ steps_claims place (scope_after scope s) steps

-- What is bound behind several steps, each of which adds the name that it binds.
abbrev pub scope_behind : Scope → List StepTree → Scope
scope_behind scope [] = scope
scope_behind scope (s ∷ steps) = scope_behind (scope_after scope s) steps

-- what is bound behind the names of a `match` between codes
abbrev pub matched_list : Scope → NameAt → NameAt → Scope
matched_list scope head tail = bind (bind scope head sort.Value) tail sort.List

unfoldable mutual
  pub code_claims : Place → Scope → CodeTree → List NameClaim
  code_claims place scope (code steps last) =
      steps_claims place scope steps ++ last_claims place (scope_behind scope steps) last

  pub last_claims : Place → Scope → LastTree → List NameClaim
  last_claims place scope (close at) = []
  last_claims place scope (fwd at x) = bound_channel scope x ∷ []
  last_claims place scope (calling at f arguments) =
      declared place.spaces.processes f ∷ arguments_claims place scope arguments
  last_claims place scope (code_if at test holds fails) =
      value_claims place scope test ++ code_claims place scope holds ++ code_claims place scope fails
  last_claims place scope (case at x arms) = chan_claims scope x ++ arm_claims place scope [] arms
  last_claims place scope (code_match at w empty head tail more) =
      bound_list scope w
      ∷ code_claims place scope empty
      ++ new_on_way scope head
      ∷ new_on_way (bind scope head sort.Value) tail
      ∷ code_claims place (matched_list scope head tail) more

  -- the labels before a branch come first
  pub arm_claims : Place → Scope → Names → ArmTrees → List NameClaim
  arm_claims place scope before no_arms = []
  arm_claims place scope before (arm l goes arms) =
      new_among before l ∷ code_claims place scope goes ++ arm_claims place scope (seen before l.name) arms
