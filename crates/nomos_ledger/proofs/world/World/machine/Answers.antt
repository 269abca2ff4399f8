use Rattle.nomos_legal.proofs.WorldLaws.{world-typed}
use Rattle.nomos_ledger.proofs.world.World.machine.Goals as goal

pub returns-clause-typed : goal.returns-clause-typed
returns-clause-typed g c = world-typed c.know.ensures.accepted c.requires
