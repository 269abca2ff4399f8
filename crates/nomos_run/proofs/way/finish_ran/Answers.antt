use Rattle.std.proofs.Common.{length}
use Rattle.nomos_legal.specs.Legal.{batch_limit}
use Rattle.nomos_walk.specs.WalkState.{WalkState}
use Rattle.nomos_run.proofs.CarryLemmas.{done-allowed, finished-as}
use Rattle.nomos_run.proofs.way.finish_ran.Goals as goal

pub finish-requires-clause-allowed : goal.finish-requires-clause-allowed
finish-requires-clause-allowed g c =
    let before : WalkState = c.args.walk.now in
    let v = c.args.ran.world in
    done-allowed before.accepted v.state (length v.firings) (batch_limit before.limit before.made) c.in-Done.is
    c.requires.ends

pub returns : goal.returns
returns g c =
    let before : WalkState = c.args.walk.now in
    let v = c.args.ran.world in
    finished-as before c.finish.new.self v c.finish.result c.in-Done.end c.in-Done.is
    (done-allowed before.accepted v.state (length v.firings) (batch_limit before.limit before.made) c.in-Done.is
    c.requires.ends) c.finish.ensures.ledger c.finish.ensures.entry c.finish.ensures.walk
