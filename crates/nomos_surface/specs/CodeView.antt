-- The tree that a code stands for: where it lies in memory is left out.
use Rattle.std.specs.Prelude.{List, [], ◌∷◌, map}
use Rattle.nomos_surface.specs.declared.codes.SurfaceArm.{SurfaceArm, SurfaceArm-F, fold-SurfaceArm}
use Rattle.nomos_surface.specs.declared.codes.SurfaceCode.{SurfaceCode, SurfaceCode-F, fold-SurfaceCode}
use Rattle.nomos_surface.specs.declared.codes.SurfaceLast.{SurfaceLast, fold-SurfaceLast}
use Rattle.nomos_surface.specs.declared.codes.SurfaceLast.TheOpen.{SurfaceLast-F}
use Rattle.nomos_surface.specs.declared.name_at.NameAt.{NameAt}
use Rattle.nomos_surface.specs.StepView.{arg_trees, step_tree}
use Rattle.nomos_surface.specs.TermView.{term_tree}
use Rattle.nomos_surface.specs.Tree.{CodeTree, code, LastTree, close, fwd, calling, code_if, case, code_match, ArmTrees, no_arms, arm}

-- a label with its code
abbrev pub Arm : Type 0
Arm = NameAt × CodeTree

-- arms in a row
abbrev pub arm_trees : List Arm → ArmTrees
arm_trees [] = no_arms
arm_trees (a ∷ arms) = arm a.0 a.1 (arm_trees arms)

-- one level, with what is inside already seen as trees
abbrev pub last_step : SurfaceLast-F LastTree Arm CodeTree → LastTree
last_step (SurfaceLast-F.Close at) = close at
last_step (SurfaceLast-F.Fwd at x) = fwd at x
last_step (SurfaceLast-F.Call at f arguments) = calling at f (arg_trees arguments)
last_step (SurfaceLast-F.If at test holds fails) = code_if at (term_tree test) holds.value fails.value
last_step (SurfaceLast-F.Case at x arms) = case at x (arm_trees arms.items)
last_step (SurfaceLast-F.Match at w empty head tail more) = code_match at w empty.value head tail more.value

abbrev pub arm_step : SurfaceArm-F LastTree Arm CodeTree → Arm
arm_step a = (a.label, a.goes)

abbrev pub code_step : SurfaceCode-F LastTree Arm CodeTree → CodeTree
code_step c = code (map step_tree c.steps) c.last

-- the tree of a last instruction, the label and the tree of an arm, and the tree of a code
abbrev pub last_tree : SurfaceLast → LastTree
last_tree = fold-SurfaceLast LastTree Arm CodeTree last_step arm_step code_step

abbrev pub arm_tree : SurfaceArm → Arm
arm_tree = fold-SurfaceArm LastTree Arm CodeTree last_step arm_step code_step

abbrev pub code_tree : SurfaceCode → CodeTree
code_tree = fold-SurfaceCode LastTree Arm CodeTree last_step arm_step code_step
