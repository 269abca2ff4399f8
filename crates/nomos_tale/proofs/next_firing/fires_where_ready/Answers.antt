use Rattle.nomos_legal.proofs.WorldLaws.{world-typed}
use Rattle.nomos_tale.proofs.next_firing.fires_where_ready.Goals as goal

pub ready-requires : goal.ready-requires
ready-requires g c =
    rw c.state.ensures.state (world-typed c.know.ensures.accepted c.requires.stands)
