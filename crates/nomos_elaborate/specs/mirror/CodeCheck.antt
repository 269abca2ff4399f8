-- A mirror of how the code goes over a code. No promise stands on it.
use Rattle.std.specs.Prelude.{List, [], ◌∷◌, length, Option, Some, None}
use Rattle.nomos_elaborate.specs.Built.{variable_id, amount_of, kind_of}
use Rattle.nomos_elaborate.specs.NameClaim.{declared, new_among, bound_channel, bound_list}
use Rattle.nomos_elaborate.specs.CodeBuild.{chan_offset}
use Rattle.nomos_elaborate.specs.CostModel.{put_code}
use Rattle.nomos_elaborate.specs.ListArgument.{list_argument}
use Rattle.nomos_elaborate.specs.Names.{Names, seen, number_of}
use Rattle.nomos_elaborate.specs.declared.elaborator.Elaborator.{Elaborator}
use Rattle.nomos_elaborate.specs.declared.sort.Sort.TheVariants as sort
use Rattle.nomos_elaborate.specs.mirror.Checked.{Checked, found, demand, ◌>>=◌}
use Rattle.nomos_elaborate.specs.mirror.Each.{each}
use Rattle.nomos_elaborate.specs.mirror.Following.{put_before}
use Rattle.nomos_elaborate.specs.mirror.TermCheck.{check_term, kept}
use Rattle.nomos_elaborate.specs.mirror.TypeCheck.{Labelled}
use Rattle.nomos_elaborate.specs.mirror.Work.{made, bound, check_new, check_bind, label_seen}
use Rattle.nomos_ir.specs.declared.code_node.Args.{Args}
use Rattle.nomos_ir.specs.declared.code_node.Arm.{Arm}
use Rattle.nomos_ir.specs.declared.code_node.Chan.{Chan}
use Rattle.nomos_ir.specs.declared.code_node.Chan.TheVariants as own
use Rattle.nomos_ir.specs.declared.code_node.CodeNode.{CodeNode}
use Rattle.nomos_ir.specs.declared.code_node.CodeNode.TheVariants as node
use Rattle.nomos_ir.specs.declared.code_node.ValueArg.{ValueArg}
use Rattle.nomos_ir.specs.declared.code_node.ValueArg.TheVariants as arg
use Rattle.nomos_ir.specs.declared.ids.CodeId.{CodeId}
use Rattle.nomos_ir.specs.declared.ids.Label.{Label}
use Rattle.nomos_ir.specs.declared.ids.ProcId.{ProcId}
use Rattle.nomos_ir.specs.declared.ids.TermId.{TermId}
use Rattle.nomos_ir.specs.declared.ids.VarId.{VarId}
use Rattle.nomos_surface.specs.declared.name_at.NameAt.{NameAt}
use Rattle.nomos_surface.specs.declared.steps.ChanAt.{ChanAt}
use Rattle.nomos_surface.specs.declared.steps.ChanAt.TheVariants as chan
use Rattle.nomos_surface.specs.Tree.{TermTree, ArgTrees, StepTree, label, send, recv, put, taking, pay, getting, work, wait, accept, detach, acquire, release, spawn, binding, empty_list, longer_list, emit, CodeTree, code, LastTree, close, fwd, calling, code_if, case, code_match, ArmTrees, no_arms, arm}

-- the variable of a channel, of a list, and the channel at which an instruction works
abbrev pub check_channel : Elaborator → NameAt → Checked VarId
check_channel w n = do
  _ ← demand (bound_channel w.scope n)
  found (variable_id w.built n)

abbrev pub check_list : Elaborator → NameAt → Checked VarId
check_list w n = do
  _ ← demand (bound_list w.scope n)
  found (variable_id w.built n)

abbrev pub check_chan : Elaborator → ChanAt → Checked Chan
check_chan w (chan.Own at) = found own.Own
check_chan w (chan.Variable n) = do
  v ← check_channel w n
  found (own.Var v)

-- the number of a declared process
abbrev pub check_process : Elaborator → NameAt → Checked ProcId
check_process w f = do
  _ ← demand (declared w.spaces.processes f)
  found (record { 0 = number_of w.spaces.processes f.name })

-- an argument that is no channel
abbrev pub as_term : Elaborator × TermId → Checked (Elaborator × ValueArg)
as_term e = found (e.0, arg.Term e.1)

abbrev pub check_unless_list : Elaborator → Option NameAt → TermTree → Checked (Elaborator × ValueArg)
check_unless_list w None t = check_term w t >>= as_term
check_unless_list w (Some n) t = found (w, arg.List (variable_id w.built n))

abbrev pub check_argument : Elaborator → TermTree → Checked (Elaborator × ValueArg)
check_argument w t = check_unless_list w (list_argument w.scope t) t

-- a channel that is handed over
abbrev pub passing : Elaborator → VarId → Checked (Elaborator × VarId)
passing w v = found (w, v)

abbrev pub check_passed : Elaborator → NameAt → Checked (Elaborator × VarId)
check_passed w n = check_channel w n >>= passing w

abbrev pub args : List ValueArg → List VarId → Args
args values channels = record { values = values; channels = channels }

unfoldable pub check_arguments : Elaborator → ArgTrees → Checked (Elaborator × Args)
check_arguments w a = do
  values ← each check_argument w a.values
  channels ← each check_passed values.0 a.channels
  found (channels.0, args values.1 channels.1)

-- no code yet
abbrev pub no_code : CodeId
no_code = record { 0 = 0 }

-- A step: its node goes on with no code yet.
unfoldable pub check_step : Elaborator → StepTree → Checked (Elaborator × CodeNode)
check_step w (label x l) = do
  c ← check_chan w x
  found ((made w (label_seen w.built l)).0, node.Label (chan_offset x) c (label_seen w.built l).1 no_code)
check_step w (send at x y) = do
  c ← check_chan w x
  v ← check_channel w y
  found (w, node.Send at c v no_code)
check_step w (recv at x y) = do
  c ← check_chan w x
  v ← check_bind w y sort.Channel
  found (v.0, node.Recv at c v.1 no_code)
check_step w (put at x e) = do
  c ← check_chan w x
  t ← check_term w e
  found (t.0, node.Put at c t.1 no_code)
check_step w (taking at x y) = do
  c ← check_chan w x
  v ← check_bind w y sort.Value
  found (v.0, node.Take at c v.1 no_code)
check_step w (pay at x q) = do
  c ← check_chan w x
  found ((made w (amount_of w.built q)).0, node.Pay at c (amount_of w.built q).1 no_code)
check_step w (getting at x q) = do
  c ← check_chan w x
  found ((made w (amount_of w.built q)).0, node.Get at c (amount_of w.built q).1 no_code)
check_step w (work at q) = found ((made w (amount_of w.built q)).0, node.Work at (amount_of w.built q).1 no_code)
check_step w (wait at x) = do
  v ← check_channel w x
  found (w, node.Wait at v no_code)
check_step w (accept at) = found (w, node.Accept at no_code)
check_step w (detach at) = found (w, node.Detach at no_code)
check_step w (acquire at a x) = do
  s ← check_channel w a
  v ← check_bind w x sort.Channel
  found (v.0, node.Acquire at s v.1 no_code)
check_step w (release at x a) = do
  h ← check_channel w x
  v ← check_bind w a sort.Channel
  found (v.0, node.Release at h v.1 no_code)
check_step w (spawn at x f arguments) = do
  v ← check_new w x
  p ← check_process v.0 f
  a ← check_arguments v.0 arguments
  found (bound a.0 x sort.Channel, node.Spawn at v.1 p a.1 no_code)
check_step w (binding at x e) = do
  v ← check_new w x
  t ← check_term v.0 e
  found (bound t.0 x sort.Value, node.Let at v.1 t.1 no_code)
check_step w (empty_list at x list_at q t) = do
  v ← check_new w x
  found (
    bound (made v.0 (amount_of v.0.built q)).0 x sort.List,
    node.Empty at v.1 (amount_of v.0.built q).1 (kind_of t) no_code,
  )
check_step w (longer_list at x e l) = do
  v ← check_new w x
  t ← check_term v.0 e
  r ← check_list t.0 l
  found (bound t.0 x sort.List, node.Add at v.1 t.1 r no_code)
check_step w (emit at e) = do
  t ← check_term w e
  found (t.0, node.Emit at t.1 no_code)

-- the next code node, with the `work` before it
abbrev pub code_made : Elaborator → CodeNode → Elaborator × CodeId
code_made w n = made w (put_code w.model w.built n)

-- a label that is new among those before it, and what it goes on with
abbrev pub the_arm : Elaborator × CodeId → Names → Label → Labelled × Arm
the_arm goes before l = ((goes.0, before), record { label = l; goes = goes.1 })

abbrev pub check_arm : (Elaborator → Checked (Elaborator × CodeId)) → Labelled → NameAt → Checked (Labelled × Arm)
check_arm goes v l = do
  _ ← demand (new_among v.1 l)
  b ← goes (made v.0 (label_seen v.0.built l)).0
  found (the_arm b (seen v.1 l.name) (label_seen v.0.built l).1)

-- the branches, where the labels before them are needed no more
abbrev pub arms_alone : Checked (Labelled × List Arm) → Checked (Elaborator × List Arm)
arms_alone arms = do
  b ← arms
  found (b.0.0, b.1)

-- steps before a code
abbrev pub steps_before : Elaborator → List CodeNode → CodeId → Elaborator × CodeId
steps_before w steps next = made w (put_before w.model steps (w.built, next))

unfoldable mutual
  pub check_code : Elaborator → CodeTree → Checked (Elaborator × CodeId)
  check_code w (code steps last) = do
    s ← each check_step w steps
    b ← check_last s.0 last
    found (steps_before (kept (length w.scope) b.0) s.1 b.1)

  pub check_last : Elaborator → LastTree → Checked (Elaborator × CodeId)
  check_last w (close at) = found (code_made w (node.Close at))
  check_last w (fwd at x) = do
    v ← check_channel w x
    found (code_made w (node.Fwd at v))
  check_last w (calling at f arguments) = do
    p ← check_process w f
    a ← check_arguments w arguments
    found (code_made a.0 (node.Call at p a.1))
  check_last w (code_if at test holds fails) = do
    t ← check_term w test
    a ← check_code t.0 holds
    b ← check_code a.0 fails
    found (code_made b.0 (node.If at t.1 a.1 b.1))
  check_last w (case at x arms) = do
    c ← check_chan w x
    b ← arms_alone (check_arms (w, []) arms)
    found (code_made b.0 (node.Case at c b.1))
  check_last w (code_match at l empty head tail more) = do
    v ← check_list w l
    a ← check_code w empty
    h ← check_bind a.0 head sort.Value
    t ← check_bind h.0 tail sort.List
    b ← check_code t.0 more
    found (code_made (kept (length a.0.scope) b.0) (node.Match at v a.1 h.1 t.1 b.1))

  pub check_arms : Labelled → ArmTrees → Checked (Labelled × List Arm)
  check_arms v no_arms = found (v, [])
  check_arms v (arm l goes arms) = do
    a ← check_arm (λ w. check_code w goes) v l
    b ← check_arms a.0 arms
    found (b.0, a.1 ∷ b.1)
