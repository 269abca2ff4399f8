use Rattle.nomos_state.proofs.PotentialLemmas.{known-is}
use Rattle.nomos_state.proofs.RowLemmas.{map-ascends}
use Rattle.nomos_state.proofs.weights.known_potential.Goals as goal

pub returns-then-is_map : goal.returns-then-is_map
returns-then-is_map c =
    known-is c.small_potential_of.result c.args.lists.now
    (map-ascends c.args.lists.now (c.is_map.ensures c.if-is_map.true))
    c.small_potential_of.ensures
