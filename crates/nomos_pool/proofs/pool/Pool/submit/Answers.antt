use Rattle.std.proofs.Common.{arith}
use Rattle.nomos_pool.proofs.PoolMoves.{submits}
use Rattle.nomos_pool.proofs.pool.Pool.submit.Goals as goal

pub push_as-requires-clause-rule : goal.push_as-requires-clause-rule
push_as-requires-clause-rule g c =
    let s = c.requires.sender in
    (submits _ _ _ _ s.sends (omega (arith, s.number)), λ items views d at. tt)
