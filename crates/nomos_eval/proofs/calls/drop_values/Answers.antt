-- One more value is taken away.
use Rattle.std.proofs.Common.{◌-◌, sym, ap, ◌∙◌}
use Rattle.nomos_eval.specs.mirror.Evaluator.{below_at}
use Rattle.nomos_eval.proofs.CallLemmas.{below-less}
use Rattle.nomos_eval.proofs.calls.drop_values.Goals as goal

pub loop-left-preserved : goal.loop-left-preserved
loop-left-preserved c =
    ap (λ l. below_at (c.loop-left.left - 1) l) c.take.ensures.rest
    ∙ sym (below-less c.loop-left.left c.loop-left.values c.loop-left-test.true) ∙ c.loop-left.invariant
