use Rattle.std.proofs.Common.{length, map, sym, ap, ◌∙◌, subst, arith}
use Rattle.std.proofs.lemmas.List.{length_push}
use Rattle.std.proofs.lemmas.Result.{err_from_is_err_and}
use Rattle.nomos_elaborate.specs.mirror.Checked.{found}
use Rattle.nomos_elaborate.specs.mirror.CodeCheck.{check_step}
use Rattle.nomos_elaborate.specs.mirror.Each.{each}
use Rattle.nomos_surface.specs.StepView.{step_tree}
use Rattle.nomos_elaborate.proofs.Loops.{items-left, each-more, each-stops, each-all, each-map}
use Rattle.nomos_elaborate.specs.mirror.Entries.{most_of}
use Rattle.nomos_surface.specs.TreeBounds.{KeepsStep}
use Rattle.nomos_surface.specs.Counts.{in_each, in_step}
use Rattle.nomos_surface.specs.Grammatical.{Each}
use Rattle.nomos_elaborate.proofs.elaborator.Elaborator.steps.Goals as goal

pub loop-step-init : goal.loop-step-init
unfolding each
loop-step-init c = record {
  gave = ap (λ items. found (c.args.self.now, items)) (sym c.new-nodes.ensures.items);
  keeps = c.requires.keeps;
  room = omega arith;
}

pub returns-in_err-node-clause-gives : goal.returns-in_err-node-clause-gives
returns-in_err-node-clause-gives c =
    let p = err_from_is_err_and c.from_residual.result c.from_residual.ensures.1 in
    rw (p.1, p.2) (each-stops (λ w x. check_step w (step_tree x)) c.args.self.now c.args.steps.now
    c.loop-step.step-index c.loop-step.self c.loop-step.nodes.items c.step-item.result c.loop-step-test.true
    c.step-item.is c.loop-step.invariant.gave c.in_err-node.field-0.0 _
    (each-map check_step step_tree c.args.self.now c.args.steps.now) c.in_err-node.ensures.gives)

pub loop-step-preserved : goal.loop-step-preserved
loop-step-preserved c =
    let left = items-left c.args.steps.now c.loop-step.step-index c.step-item.result c.loop-step-test.true
    c.step-item.is in
    let rest = ap (λ xs. most_of (in_each in_step (map step_tree xs))) left in
    let longer = ap (λ ns. length ns) c.in_ok-push.ensures.items
    ∙ length_push c.loop-step.nodes.items c.in_ok-node.node in
    record {
      gave =
          each-more (λ w x. check_step w (step_tree x)) c.args.self.now c.args.steps.now c.loop-step.step-index
          c.loop-step.self c.loop-step.nodes.items c.step-item.result c.loop-step-test.true c.step-item.is
          c.loop-step.invariant.gave c.step.new.self c.in_ok-node.node c.in_ok-node.ensures.gives
          ∙ ap (λ items. found (c.step.new.self, items)) (sym c.in_ok-push.ensures.items);
      keeps = (subst (λ xs. Each KeepsStep (map step_tree xs)) left c.loop-step.invariant.keeps).1;
      room = omega (arith, c.in_ok-node.ensures.grows);
    }

pub returns-clause-gives : goal.returns-clause-gives
returns-clause-gives c =
    each-map check_step step_tree c.args.self.now c.args.steps.now
    ∙ each-all (λ w x. check_step w (step_tree x)) c.args.self.now c.args.steps.now c.loop-step.step-index _
    c.loop-step-test.false c.loop-step.invariant.gave

pub step-requires : goal.step-requires
step-requires c =
    let left = items-left c.args.steps.now c.loop-step.step-index c.step-item.result c.loop-step-test.true
    c.step-item.is in
    let rest = ap (λ xs. most_of (in_each in_step (map step_tree xs))) left in
    record {
      keeps = (subst (λ xs. Each KeepsStep (map step_tree xs)) left c.loop-step.invariant.keeps).0;
      room = omega arith;
    }
