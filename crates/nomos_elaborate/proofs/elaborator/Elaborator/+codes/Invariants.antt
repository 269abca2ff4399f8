use Rattle.std.proofs.Common.{◌≡◌, ◌+◌, ◌≤◌, [], map, take, drop}
use Rattle.nomos_elaborate.specs.mirror.Checked.{found}
use Rattle.nomos_elaborate.specs.mirror.CodeCheck.{check_arm, check_code}
use Rattle.nomos_elaborate.specs.mirror.Each.{each}
use Rattle.nomos_surface.specs.CodeView.{arm_tree, arm_trees}
use Rattle.nomos_elaborate.specs.mirror.Entries.{all_entries, most_of}
use Rattle.nomos_surface.specs.TreeBounds.{KeepsArms}
use Rattle.nomos_surface.specs.Counts.{in_arms}
use Rattle.nomos_elaborate.proofs.elaborator.Elaborator.+codes.Given as goal

-- the branches so far gave what is there so far, and those that are left have room
abbrev pub invariant-arms-loop-tree : goal.invariant-arms-loop-tree
invariant-arms-loop-tree l = record {
  gave :
      each (λ v a. check_arm (λ w. check_code w (arm_tree a).1) v (arm_tree a).0) (l.fn.self, [])
      (take l.tree-index l.trees)
      ≡ found ((l.self, l.before), l.arms.items);
  keeps : KeepsArms (arm_trees (map arm_tree (drop l.tree-index l.trees)));
  room :
      all_entries l.self + most_of (in_arms (arm_trees (map arm_tree (drop l.tree-index l.trees))))
      ≤ all_entries l.fn.self + most_of (in_arms (arm_trees (map arm_tree l.trees)));
}
