use Rattle.nomos_places.specs.mirror.AlongCode.{IsAlongBelow}
use Rattle.nomos_places.proofs.along.follow_all.Given as goal

-- the declarations so far were followed
abbrev pub invariant-loop-p : goal.invariant-loop-p
invariant-loop-p l = IsAlongBelow l.accepted l.wanted l.p l.standings.items l.potentials.items
