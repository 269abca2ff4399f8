use Rattle.std.proofs.Common.{◌∙◌}
use Rattle.nomos_simplex.specs.LeastRun.{LeastRun}
use Rattle.nomos_simplex.proofs.lowering.without_amounts.Goals as goal

pub returns-in-Refuted : goal.returns-in-Refuted
returns-in-Refuted c = λ rows goal_is e. LeastRun.refuted c.in-Refuted.verdict (e ∙ c.in-Refuted.is)

pub returns-in-Unsolved : goal.returns-in-Unsolved
returns-in-Unsolved c = λ rows goal_is e. LeastRun.stopped c.in-Unsolved.stop (e ∙ c.in-Unsolved.is)
