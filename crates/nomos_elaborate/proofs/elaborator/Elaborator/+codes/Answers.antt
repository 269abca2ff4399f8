use Rattle.std.proofs.Common.{◌≡◌, [], map, sym, ap, ◌∙◌, rules, subst, arith}
use Rattle.std.proofs.lemmas.Result.{err_from_is_err_and}
use Rattle.nomos_elaborate.specs.mirror.Checked.{found}
use Rattle.nomos_elaborate.specs.mirror.Each.{each}
use Rattle.nomos_elaborate.specs.mirror.CodeCheck.{arms_alone, check_arm, check_code, check_step}
use Rattle.nomos_surface.specs.CodeView.{arm_tree, arm_trees, code_tree, last_tree}
use Rattle.nomos_surface.specs.StepView.{step_tree}
use Rattle.nomos_surface.specs.Tree.{code}
use Rattle.nomos_elaborate.proofs.Loops.{items-left, each-more, each-stops, each-all}
use Rattle.nomos_elaborate.proofs.StopLaws.{stops-then}
use Rattle.nomos_elaborate.proofs.CodeSteps.{code_stops, whole_code}
use Rattle.nomos_surface.specs.declared.codes.SurfaceLast.{the_lemmas}
use Rattle.nomos_elaborate.proofs.CodeLoops.{arms_are_each}
use Rattle.nomos_elaborate.specs.mirror.Entries.{most_of}
use Rattle.nomos_surface.specs.TreeBounds.{KeepsArms}
use Rattle.nomos_surface.specs.Counts.{in_arms}
use Rattle.nomos_elaborate.proofs.elaborator.Elaborator.+codes.Goals as goal

pub arms-loop-tree-init : goal.arms-loop-tree-init
unfolding each
arms-loop-tree-init t c = record {
  gave = (λ i. found ((c.args.self.now, sym c.new-before.ensures i), sym c.new-arms.ensures.items i));
  keeps = c.requires.keeps;
  room = omega arith;
}

pub arms-returns-in_err-arm-clause-gives : goal.arms-returns-in_err-arm-clause-gives
arms-returns-in_err-arm-clause-gives t c =
    let p = err_from_is_err_and c.from_residual.result c.from_residual.ensures.1 in
    rw (p.1, p.2) (stops-then c.in_err-arm.field-0.0 _ _
    (each-stops (λ v b. check_arm (λ w. check_code w (arm_tree b).1) v (arm_tree b).0) (c.args.self.now, [])
    c.args.trees.now c.loop-tree.tree-index (c.loop-tree.self, c.loop-tree.before) c.loop-tree.arms.items
    c.tree-item.result c.loop-tree-test.true c.tree-item.is c.loop-tree.invariant.gave c.in_err-arm.field-0.0 _
    (arms_are_each arm_tree (c.args.self.now, []) c.args.trees.now) c.in_err-arm.ensures.gives))

pub arms-loop-tree-preserved : goal.arms-loop-tree-preserved
unfolding in_arms
arms-loop-tree-preserved t c =
    let left = items-left c.args.trees.now c.loop-tree.tree-index c.tree-item.result c.loop-tree-test.true
    c.tree-item.is in
    let rest = ap (λ xs. most_of (in_arms (arm_trees (map arm_tree xs)))) left in
    record {
      gave =
          each-more (λ v b. check_arm (λ w. check_code w (arm_tree b).1) v (arm_tree b).0) (c.args.self.now, [])
          c.args.trees.now c.loop-tree.tree-index (c.loop-tree.self, c.loop-tree.before) c.loop-tree.arms.items
          c.tree-item.result c.loop-tree-test.true c.tree-item.is c.loop-tree.invariant.gave
          (c.arm.new.self, c.arm.new.before) c.in_ok-arm.arm c.in_ok-arm.ensures.gives
          ∙ ap (λ items. found ((c.arm.new.self, c.arm.new.before), items)) (sym c.in_ok-push.ensures.items);
      keeps = (subst (λ xs. KeepsArms (arm_trees (map arm_tree xs))) left c.loop-tree.invariant.keeps).2;
      room = omega (arith, c.in_ok-arm.ensures.grows);
    }

pub arms-returns-clause-gives : goal.arms-returns-clause-gives
arms-returns-clause-gives t c =
    ap arms_alone
    (arms_are_each arm_tree (c.args.self.now, []) c.args.trees.now
    ∙ each-all (λ v b. check_arm (λ w. check_code w (arm_tree b).1) v (arm_tree b).0) (c.args.self.now, [])
    c.args.trees.now c.loop-tree.tree-index _ c.loop-tree-test.false c.loop-tree.invariant.gave)

pub code-returns-clause-gives : goal.code-returns-clause-gives
code-returns-clause-gives t c =
    let steps = map step_tree c.args.code.now.steps in
    let listed : map step_tree c.as_slice.result.now ≡ steps = ap (map step_tree) c.as_slice.ensures in
    let tree : code_tree c.args.code.now ≡ code steps (last_tree c.args.code.now.last) = search (rules, the_lemmas) in
    rw (sym (whole_code c.args.self.now c.steps.new.self c.last.new.self steps c.in_ok-steps.steps.items
    (last_tree c.args.code.now.last) c.in_ok-last.last (code_tree c.args.code.now) c.len-bound.result
    tree (ap (each check_step c.args.self.now) (sym listed) ∙ c.in_ok-steps.ensures.gives) c.in_ok-last.ensures.gives
    c.len-bound.ensures)) c.end_code.ensures.gives

pub arms-arm-requires : goal.arms-arm-requires
unfolding in_arms
arms-arm-requires t c =
    let left = items-left c.args.trees.now c.loop-tree.tree-index c.tree-item.result c.loop-tree-test.true
    c.tree-item.is in
    let rest = ap (λ xs. most_of (in_arms (arm_trees (map arm_tree xs)))) left in (
      search (rules, the_lemmas),
      (
        (subst (λ xs. KeepsArms (arm_trees (map arm_tree xs))) left
            c.loop-tree.invariant.keeps).1,
        omega arith,
      ),
    )

pub code-returns-in_err-last-clause-gives : goal.code-returns-in_err-last-clause-gives
code-returns-in_err-last-clause-gives t c =
    let steps = map step_tree c.args.code.now.steps in
    let listed : map step_tree c.as_slice.result.now ≡ steps = ap (map step_tree) c.as_slice.ensures in
    let tree : code_tree c.args.code.now ≡ code steps (last_tree c.args.code.now.last) = search (rules, the_lemmas) in
    let p = err_from_is_err_and c.from_residual-in_err-last.result c.from_residual-in_err-last.ensures.1 in
    rw (p.1, p.2) (code_stops c.args.self.now c.steps.new.self steps c.in_ok-steps.steps.items
    (last_tree c.args.code.now.last) (code_tree c.args.code.now) c.in_err-last.field-0.0
    tree (ap (each check_step c.args.self.now) (sym listed) ∙ c.in_ok-steps.ensures.gives) c.in_err-last.ensures.gives)
