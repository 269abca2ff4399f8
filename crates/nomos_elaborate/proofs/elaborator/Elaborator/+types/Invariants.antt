use Rattle.std.proofs.Common.{◌≡◌, ◌+◌, ◌≤◌, [], map, take, drop}
use Rattle.nomos_elaborate.specs.mirror.Checked.{found}
use Rattle.nomos_elaborate.specs.mirror.Each.{each}
use Rattle.nomos_elaborate.specs.mirror.TypeCheck.{check_branch, check_type}
use Rattle.nomos_surface.specs.TypeView.{branch_tree, branch_trees}
use Rattle.nomos_elaborate.specs.mirror.Entries.{all_entries, most_of}
use Rattle.nomos_surface.specs.TreeBounds.{KeepsBranches}
use Rattle.nomos_surface.specs.Counts.{in_branches}
use Rattle.nomos_elaborate.proofs.elaborator.Elaborator.+types.Given as goal

-- the branches so far gave what is there so far, and those that are left have room
abbrev pub invariant-branches-loop-tree : goal.invariant-branches-loop-tree
invariant-branches-loop-tree l = record {
  gave :
      each (λ v b. check_branch (λ w. check_type w (branch_tree b).1) v (branch_tree b).0) (l.fn.self, [])
      (take l.tree-index l.trees)
      ≡ found ((l.self, l.before), l.branches.items);
  keeps : KeepsBranches (branch_trees (map branch_tree (drop l.tree-index l.trees)));
  room :
      all_entries l.self + most_of (in_branches (branch_trees (map branch_tree (drop l.tree-index l.trees))))
      ≤ all_entries l.fn.self + most_of (in_branches (branch_trees (map branch_tree l.trees)));
}
