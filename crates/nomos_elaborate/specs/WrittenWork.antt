-- The first `work` that is written where the cost model allows none.
use Rattle.std.specs.Prelude.{ℕ, List, [], ◌∷◌, ◌++◌, Option, Some, None}
use Rattle.std.specs.List.{flat_map}
use Rattle.nomos_elaborate.specs.CostModel.{model_of}
use Rattle.nomos_surface.specs.declared.surface.CostModel.{CostModel}
use Rattle.nomos_surface.specs.declared.surface.CostModel.TheVariants as cost
use Rattle.nomos_surface.specs.Tree.{StepTree, work, CodeTree, code, LastTree, close, fwd, calling, code_if, case, code_match, ArmTrees, no_arms, arm, DeclTree, definition, function, process, transaction, FileTree}

-- the offsets of written `work`, in order of text
abbrev pub step_works : StepTree → List ℕ
step_works (work at q) = at ∷ []
step_works _ = []

unfoldable mutual
  pub code_works : CodeTree → List ℕ
  code_works (code steps last) = flat_map step_works steps ++ last_works last

  pub last_works : LastTree → List ℕ
  last_works (close at) = []
  last_works (fwd at x) = []
  last_works (calling at f arguments) = []
  last_works (code_if at test holds fails) = code_works holds ++ code_works fails
  last_works (case at x arms) = arm_works arms
  last_works (code_match at w empty head tail more) = code_works empty ++ code_works more

  pub arm_works : ArmTrees → List ℕ
  arm_works no_arms = []
  arm_works (arm l goes arms) = code_works goes ++ arm_works arms

-- The offsets of written `work` in one declaration: only the codes of processes and transactions can have it.
abbrev pub decl_works : DeclTree → List ℕ
decl_works (definition at mode n body) = []
decl_works (function at n pars gives body) = []
decl_works (process at mode n pars potential offers body) = code_works body
decl_works (transaction at n pars potential body) = code_works body

-- the first of these
abbrev pub first_of_list : List ℕ → Option ℕ
first_of_list [] = None
first_of_list (at ∷ works) = Some at

-- the first written `work` under `all`
abbrev pub refused_work : CostModel → List DeclTree → Option ℕ
refused_work cost.Ticks decls = None
refused_work cost.Sends decls = None
refused_work cost.All decls = first_of_list (flat_map decl_works decls)

-- Under `cost all`, the offset of the first `work` that a text writes by hand; otherwise none.
abbrev pub written_work : FileTree → Option ℕ
written_work tree = refused_work (model_of tree.cost) tree.decls
