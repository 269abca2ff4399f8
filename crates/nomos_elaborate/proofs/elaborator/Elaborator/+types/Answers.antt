use Rattle.std.proofs.Common.{[], map, sym, ap, ◌∙◌, subst, arith, rules}
use Rattle.std.proofs.lemmas.Result.{err_from_is_err_and}
use Rattle.nomos_elaborate.specs.mirror.Checked.{found}
use Rattle.nomos_elaborate.specs.mirror.Each.{each}
use Rattle.nomos_elaborate.specs.mirror.TypeCheck.{branches_alone, check_branch, check_type}
use Rattle.nomos_surface.specs.TypeView.{branch_tree, branch_trees}
use Rattle.nomos_elaborate.proofs.EntryLaws.{type_counts}
use Rattle.nomos_elaborate.proofs.Loops.{items-left, each-more, each-stops, each-all}
use Rattle.nomos_elaborate.proofs.StopLaws.{stops-then}
use Rattle.nomos_elaborate.proofs.TypeLoops.{branches_are_each}
use Rattle.nomos_elaborate.specs.mirror.Entries.{most_of}
use Rattle.nomos_surface.specs.TreeBounds.{KeepsBranches}
use Rattle.nomos_surface.specs.Counts.{in_branches}
use Rattle.nomos_surface.specs.declared.types.SurfaceBranch.{the_lemmas}
use Rattle.nomos_elaborate.proofs.elaborator.Elaborator.+types.Goals as goal

pub branches-loop-tree-init : goal.branches-loop-tree-init
unfolding each
branches-loop-tree-init t c = record {
  gave = (λ i. found ((c.args.self.now, sym c.new-before.ensures i), sym c.new-branches.ensures.items i));
  keeps = c.requires.keeps;
  room = omega arith;
}

pub branches-returns-in_err-branch-clause-gives : goal.branches-returns-in_err-branch-clause-gives
branches-returns-in_err-branch-clause-gives t c =
    let p = err_from_is_err_and c.from_residual.result c.from_residual.ensures.1 in
    rw (p.1, p.2) (stops-then c.in_err-branch.field-0.0 _ _
    (each-stops (λ v b. check_branch (λ w. check_type w (branch_tree b).1) v (branch_tree b).0)
    (c.args.self.now, []) c.args.trees.now c.loop-tree.tree-index (c.loop-tree.self, c.loop-tree.before)
    c.loop-tree.branches.items c.tree-item.result c.loop-tree-test.true c.tree-item.is c.loop-tree.invariant.gave
    c.in_err-branch.field-0.0 _ (branches_are_each branch_tree (c.args.self.now, []) c.args.trees.now)
    c.in_err-branch.ensures.gives))

pub branches-loop-tree-preserved : goal.branches-loop-tree-preserved
unfolding in_branches
branches-loop-tree-preserved t c =
    let left = items-left c.args.trees.now c.loop-tree.tree-index c.tree-item.result c.loop-tree-test.true
    c.tree-item.is in
    let rest = ap (λ xs. most_of (in_branches (branch_trees (map branch_tree xs)))) left in
    record {
      gave =
          each-more (λ v b. check_branch (λ w. check_type w (branch_tree b).1) v (branch_tree b).0)
          (c.args.self.now, []) c.args.trees.now c.loop-tree.tree-index (c.loop-tree.self, c.loop-tree.before)
          c.loop-tree.branches.items c.tree-item.result c.loop-tree-test.true c.tree-item.is
          c.loop-tree.invariant.gave (c.one_branch.new.self, c.one_branch.new.before) c.in_ok-branch.branch
          c.in_ok-branch.ensures.gives
          ∙ ap (λ items. found ((c.one_branch.new.self, c.one_branch.new.before), items))
          (sym c.in_ok-push.ensures.items);
      keeps = (subst (λ xs. KeepsBranches (branch_trees (map branch_tree xs))) left c.loop-tree.invariant.keeps).2;
      room = omega (arith, c.in_ok-branch.ensures.grows);
    }

pub branches-returns-clause-gives : goal.branches-returns-clause-gives
branches-returns-clause-gives t c =
    ap branches_alone
    (branches_are_each branch_tree (c.args.self.now, []) c.args.trees.now
    ∙ each-all (λ v b. check_branch (λ w. check_type w (branch_tree b).1) v (branch_tree b).0) (c.args.self.now, [])
    c.args.trees.now c.loop-tree.tree-index _ c.loop-tree-test.false c.loop-tree.invariant.gave)

pub branches-one_branch-requires : goal.branches-one_branch-requires
unfolding in_branches
branches-one_branch-requires t c =
    let left = items-left c.args.trees.now c.loop-tree.tree-index c.tree-item.result c.loop-tree-test.true
    c.tree-item.is in
    let rest = ap (λ xs. most_of (in_branches (branch_trees (map branch_tree xs)))) left in (
      search (rules, the_lemmas),
      (
        (subst (λ xs. KeepsBranches (branch_trees (map branch_tree xs))) left
            c.loop-tree.invariant.keeps).1,
        omega arith,
      ),
    )

pub one_branch-see_label-requires : goal.one_branch-see_label-requires
one_branch-see_label-requires t c = let one = type_counts (branch_tree c.args.tree.now).1 in omega arith
