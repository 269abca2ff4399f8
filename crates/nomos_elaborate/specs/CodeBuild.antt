-- The code nodes of a code: of one code the last instruction first, and the branches of an instruction in order of
-- text before it. Terms, labels and variables are numbered in order of text.
use Rattle.std.specs.Prelude.{ℕ, List, [], ◌∷◌, map, Option, Some, None}
use Rattle.nomos_elaborate.specs.Built.{Built, with_label, with_variable, label_id, variable_id, amount_of, kind_of}
use Rattle.nomos_elaborate.specs.CodeClaims.{scope_after, matched_list}
use Rattle.nomos_elaborate.specs.CostModel.{put_code}
use Rattle.nomos_elaborate.specs.ListArgument.{list_argument}
use Rattle.nomos_elaborate.specs.Names.{number_of}
use Rattle.nomos_elaborate.specs.Scope.{Scope}
use Rattle.nomos_elaborate.specs.declared.spaces.Spaces.{Spaces}
use Rattle.nomos_elaborate.specs.TermBuild.{build_term}
use Rattle.nomos_ir.specs.declared.code_node.Args.{Args}
use Rattle.nomos_ir.specs.declared.code_node.Arm.{Arm}
use Rattle.nomos_ir.specs.declared.code_node.Chan.{Chan}
use Rattle.nomos_ir.specs.declared.code_node.Chan.TheVariants as own
use Rattle.nomos_ir.specs.declared.code_node.CodeNode.{CodeNode}
use Rattle.nomos_ir.specs.declared.code_node.CodeNode.TheVariants as node
use Rattle.nomos_ir.specs.declared.code_node.ValueArg.{ValueArg}
use Rattle.nomos_ir.specs.declared.code_node.ValueArg.TheVariants as arg
use Rattle.nomos_ir.specs.declared.ids.CodeId.{CodeId}
use Rattle.nomos_ir.specs.declared.ids.Label.{Label}
use Rattle.nomos_ir.specs.declared.ids.ProcId.{ProcId}
use Rattle.nomos_ir.specs.declared.ids.TermId.{TermId}
use Rattle.nomos_surface.specs.declared.name_at.NameAt.{NameAt}
use Rattle.nomos_surface.specs.declared.steps.ChanAt.{ChanAt}
use Rattle.nomos_surface.specs.declared.steps.ChanAt.TheVariants as chan
use Rattle.nomos_surface.specs.declared.surface.CostModel.{CostModel}
use Rattle.nomos_surface.specs.Tree.{TermTree, ArgTrees, StepTree, label, send, recv, put, taking, pay, getting, work, wait, accept, detach, acquire, release, spawn, binding, empty_list, longer_list, emit, CodeTree, code, LastTree, close, fwd, calling, code_if, case, code_match, ArmTrees, no_arms, arm}

-- the channel at which an instruction works, and the offset of its first token
abbrev pub chan_of : Built → ChanAt → Chan
chan_of s (chan.Own at) = own.Own
chan_of s (chan.Variable n) = own.Var (variable_id s n)

-- An instruction at a channel stands where its channel is written: at `self`, or at the name of the channel.
abbrev pub chan_offset : ChanAt → ℕ
chan_offset (chan.Own at) = at
chan_offset (chan.Variable n) = n.at

-- the number of a declared process
abbrev pub process_id : Spaces → NameAt → ProcId
process_id spaces f = record { 0 = number_of spaces.processes f.name }

-- a term of a code
abbrev pub build_value : Spaces → Built → TermTree → Built × TermId
build_value spaces s t = build_term spaces.functions s t

-- an argument that is no channel: a list that is handed over, or a term
abbrev pub a_term : Built × TermId → Built × ValueArg
a_term built = (built.0, arg.Term built.1)

-- An argument is the variable of the list that is handed over, or else its term is built.
abbrev pub build_unless_list : Spaces → Built → Option NameAt → TermTree → Built × ValueArg
build_unless_list spaces s None t = a_term (build_value spaces s t)
build_unless_list spaces s (Some n) t = (s, arg.List (variable_id s n))

-- An argument hands a list over where it is only the name of a bound list, and is a term otherwise.
abbrev pub build_argument : Spaces → Scope → Built → TermTree → Built × ValueArg
build_argument spaces scope s t = build_unless_list spaces s (list_argument scope t) t

-- one more argument at the front
abbrev pub with_argument : ValueArg → Built × List ValueArg → Built × List ValueArg
with_argument first built = (built.0, first ∷ built.1)

-- The arguments that are no channels are built in order of text.
abbrev pub build_values : Spaces → Scope → Built → List TermTree → Built × List ValueArg
build_values spaces scope s [] = (s, [])
build_values spaces scope s (t ∷ terms) =
    let built = build_argument spaces scope s t in
    with_argument built.1 (build_values spaces scope built.0 terms)

-- The arguments of a call or a spawn: first its values and lists, then the channels that it hands over.
abbrev pub build_arguments : Spaces → Scope → Built → ArgTrees → Built × Args
build_arguments spaces scope s a =
    let built = build_values spaces scope s a.values in
    (built.0, record { values = built.1; channels = map (variable_id built.0) a.channels })

-- What a step makes: what is built behind it, and its node before the code that follows.
abbrev pub build_step : Spaces → Scope → Built → StepTree → Built × (CodeId → CodeNode)
build_step spaces scope s (label x l) =
    let named = with_label s l in
    (named, λ next. node.Label (chan_offset x) (chan_of s x) (label_id named l) next)
build_step spaces scope s (send at x y) = (s, λ next. node.Send at (chan_of s x) (variable_id s y) next)
build_step spaces scope s (recv at x y) =
    let bound = with_variable s y in
    (bound, λ next. node.Recv at (chan_of s x) (variable_id bound y) next)
build_step spaces scope s (put at x e) =
    let built = build_value spaces s e in
    (built.0, λ next. node.Put at (chan_of s x) built.1 next)
build_step spaces scope s (taking at x v) =
    let bound = with_variable s v in
    (bound, λ next. node.Take at (chan_of s x) (variable_id bound v) next)
build_step spaces scope s (pay at x q) =
    let paid = amount_of s q in
    (paid.0, λ next. node.Pay at (chan_of s x) paid.1 next)
build_step spaces scope s (getting at x q) =
    let paid = amount_of s q in
    (paid.0, λ next. node.Get at (chan_of s x) paid.1 next)
build_step spaces scope s (work at q) =
    let paid = amount_of s q in
    (paid.0, λ next. node.Work at paid.1 next)
build_step spaces scope s (wait at x) = (s, λ next. node.Wait at (variable_id s x) next)
build_step spaces scope s (accept at) = (s, λ next. node.Accept at next)
build_step spaces scope s (detach at) = (s, λ next. node.Detach at next)
build_step spaces scope s (acquire at a x) =
    let bound = with_variable s x in
    (bound, λ next. node.Acquire at (variable_id s a) (variable_id bound x) next)
build_step spaces scope s (release at x a) =
    let bound = with_variable s a in
    (bound, λ next. node.Release at (variable_id s x) (variable_id bound a) next)
build_step spaces scope s (spawn at x f arguments) =
    let bound = with_variable s x in
    let built = build_arguments spaces scope bound arguments in
    (built.0, λ next. node.Spawn at (variable_id bound x) (process_id spaces f) built.1 next)
build_step spaces scope s (binding at v e) =
    let bound = with_variable s v in
    let built = build_value spaces bound e in
    (built.0, λ next. node.Let at (variable_id bound v) built.1 next)
build_step spaces scope s (empty_list at v list_at q t) =
    let bound = with_variable s v in
    let paid = amount_of bound q in
    (paid.0, λ next. node.Empty at (variable_id bound v) paid.1 (kind_of t) next)
build_step spaces scope s (longer_list at v e w) =
    let bound = with_variable s v in
    let built = build_value spaces bound e in
    (built.0, λ next. node.Add at (variable_id bound v) built.1 (variable_id built.0 w) next)
build_step spaces scope s (emit at e) =
    let built = build_value spaces s e in
    (built.0, λ next. node.Emit at built.1 next)

-- one more branch at the front
abbrev pub with_arm : Label → CodeId → Built × List Arm → Built × List Arm
with_arm l goes built = (built.0, record { label = l; goes = goes } ∷ built.1)

-- a step before the code that was built
abbrev pub put_step : CostModel → (CodeId → CodeNode) → Built × CodeId → Built × CodeId
put_step model step built = put_code model built.0 (step built.1)

-- steps, in order of text, before a last instruction that is built in what they bind and make
abbrev pub build_steps :
    CostModel → Spaces → Scope → Built → List StepTree → (Scope → Built → Built × CodeId) → Built × CodeId
build_steps model spaces scope s [] last = last scope s
build_steps model spaces scope s (step ∷ steps) last =
    let made = build_step spaces scope s step in
    put_step model made.1 (build_steps model spaces (scope_after scope step) made.0 steps last)

unfoldable mutual
  pub build_code : CostModel → Spaces → Scope → Built → CodeTree → Built × CodeId
  build_code model spaces scope s (code steps last) =
      build_steps model spaces scope s steps (λ inner made. build_last model spaces inner made last)

  pub build_last : CostModel → Spaces → Scope → Built → LastTree → Built × CodeId
  build_last model spaces scope s (close at) = put_code model s (node.Close at)
  build_last model spaces scope s (fwd at x) = put_code model s (node.Fwd at (variable_id s x))
  build_last model spaces scope s (calling at f arguments) =
      let built = build_arguments spaces scope s arguments in
      put_code model built.0 (node.Call at (process_id spaces f) built.1)
  build_last model spaces scope s (code_if at test holds fails) =
      let t = build_value spaces s test in
      let a = build_code model spaces scope t.0 holds in
      let b = build_code model spaces scope a.0 fails in
      put_code model b.0 (node.If at t.1 a.1 b.1)
  build_last model spaces scope s (case at x arms) =
      let built = build_arms model spaces scope s arms in
      put_code model built.0 (node.Case at (chan_of s x) built.1)
  build_last model spaces scope s (code_match at w empty head tail more) =
      let a = build_code model spaces scope s empty in
      let one = with_variable a.0 head in
      let two = with_variable one tail in
      let b = build_code model spaces (matched_list scope head tail) two more in
      put_code model b.0 (node.Match at (variable_id s w) a.1 (variable_id one head) (variable_id two tail) b.1)

  pub build_arms : CostModel → Spaces → Scope → Built → ArmTrees → Built × List Arm
  build_arms model spaces scope s no_arms = (s, [])
  build_arms model spaces scope s (arm l goes arms) =
      let named = with_label s l in
      let built = build_code model spaces scope named goes in
      with_arm (label_id named l) built.1 (build_arms model spaces scope built.0 arms)
