-- The first ones ascend so far.
use Rattle.std.proofs.Common.{◌-◌}
use Rattle.nomos_eval.specs.mirror.Ascending.{Rises}
use Rattle.nomos_eval.proofs.ascending.rising.Given as goal

abbrev pub invariant-loop-now : goal.invariant-loop-now
invariant-loop-now g l = Rises l.pairs l.now

abbrev pub decreases-loop-now : goal.decreases-loop-now
decreases-loop-now g l = l.end - l.now
