use Rattle.std.proofs.Common.{length, ap, ◌∙◌, arith}
use Rattle.std.proofs.lemmas.List.{length_push}
use Rattle.nomos_elaborate.proofs.StepLoops.{step_next}
use Rattle.nomos_elaborate.proofs.builder.Builder.put_steps.Goals as goal

pub loop-step-preserved : goal.loop-step-preserved
loop-step-preserved c =
    let fewer = ap length c.in-Some.ensures.items ∙ length_push c.pop.new.self.items c.in-Some.step in
    record {
      gives =
          step_next c.args.model c.loop-step.steps.items c.pop.new.self.items c.in-Some.step c.loop-step.self
          c.loop-step.next c.with_next.result (c.put_code.new.self, c.in_ok-next.next) _
          c.in-Some.ensures.items c.with_next.ensures c.in_ok-next.ensures.gives c.loop-step.invariant.gives;
      room = omega (arith, c.in_ok-next.ensures.grows);
    }

pub put_code-requires : goal.put_code-requires
put_code-requires c =
    let fewer = ap length c.in-Some.ensures.items ∙ length_push c.pop.new.self.items c.in-Some.step in
    omega arith
