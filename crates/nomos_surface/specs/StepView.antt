-- The tree that a step of the code stands for.
use Rattle.std.specs.Prelude.{map}
use Rattle.nomos_surface.specs.declared.steps.SurfaceArgs.{SurfaceArgs}
use Rattle.nomos_surface.specs.declared.steps.SurfaceStep.{SurfaceStep}
use Rattle.nomos_surface.specs.declared.steps.SurfaceStep.TheVariants as step
use Rattle.nomos_surface.specs.TermView.{term_tree}
use Rattle.nomos_surface.specs.Tree.{ArgTrees, StepTree, label, send, recv, put, taking, pay, getting, work, wait, accept, detach, acquire, release, spawn, binding, empty_list, longer_list, emit}

-- the trees of arguments
abbrev pub arg_trees : SurfaceArgs → ArgTrees
arg_trees a = record { values = map term_tree a.values; channels = a.channels }

-- the tree of a step
abbrev pub step_tree : SurfaceStep → StepTree
step_tree (step.Label x l) = label x l
step_tree (step.Send at x y) = send at x y
step_tree (step.Recv at x y) = recv at x y
step_tree (step.Put at x e) = put at x (term_tree e)
step_tree (step.Take at x v) = taking at x v
step_tree (step.Pay at x q) = pay at x q
step_tree (step.Get at x q) = getting at x q
step_tree (step.Work at q) = work at q
step_tree (step.Wait at x) = wait at x
step_tree (step.Accept at) = accept at
step_tree (step.Detach at) = detach at
step_tree (step.Acquire at a x) = acquire at a x
step_tree (step.Release at x a) = release at x a
step_tree (step.Spawn at x f arguments) = spawn at x f (arg_trees arguments)
step_tree (step.Let at v e) = binding at v (term_tree e)
step_tree (step.Empty at v list_at q t) = empty_list at v list_at q t
step_tree (step.Add at v e w) = longer_list at v (term_tree e) w
step_tree (step.Emit at e) = emit at (term_tree e)
