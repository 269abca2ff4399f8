use Rattle.std.proofs.Common.{◌≡◌, map, drop}
use Rattle.std.specs.List.{flat_map}
use Rattle.nomos_elaborate.specs.WrittenWork.{arm_works, code_works, first_of_list}
use Rattle.nomos_surface.specs.CodeView.{arm_tree, arm_trees}
use Rattle.nomos_elaborate.proofs.works.+works.Given as goal

-- the branches that are left have the first `work` of all
abbrev pub invariant-work_in_arms-loop-arm : goal.invariant-work_in_arms-loop-arm
invariant-work_in_arms-loop-arm l =
    first_of_list (flat_map (λ a. code_works (arm_tree a).1) (drop l.arm-index l.arms))
    ≡ first_of_list (arm_works (arm_trees (map arm_tree l.arms)))
