use Rattle.nomos_legal.proofs.WorldLaws.{world-typed}
use Rattle.nomos_replay.proofs.told_firing.fire_if_ready.Goals as goal

pub ready-requires : goal.ready-requires
ready-requires g c =
    rw c.state.ensures.state (world-typed c.know.ensures.accepted c.requires.may.stands)
