use Rattle.std.proofs.Common.{arith}
use Rattle.nomos_tale.proofs.FiringLemmas.{ended-allowed, on-numbers}
use Rattle.nomos_tale.proofs.batch_tale.fire_all.Goals as goal

pub step-requires-clause-numbers : goal.step-requires-clause-numbers
step-requires-clause-numbers g c =
    on-numbers c.args.accepted.now c.args.limit c.firings._made c.args.watched.now.world c.firings.watched.world
    c.know.ensures.accepted c.requires.may c.firings.invariant.on (omega arith)

pub returns-in-Some-clause-end : goal.returns-in-Some-clause-end
returns-in-Some-clause-end g c =
    let ended = rw c.in-Some.is at c.in_ok-end.ensures.goes in
    ended-allowed c.args.accepted.now c.args.limit c.firings._made c.args.watched.now.world c.firings.watched.world
    c.step.new.watched.world c.in-Some.end c.firings.invariant.on ended.0 ended.1 (omega arith)
