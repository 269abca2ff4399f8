use Rattle.std.proofs.Common.{ap, option_copied}
use Rattle.nomos_deeds.proofs.deeds.deed_of.Goals as goal

pub deed_at_node-requires-clause-amounts : goal.deed_at_node-requires-clause-amounts
deed_at_node-requires-clause-amounts g c =
    c.code_at.ensures.amounts c.in_ok-node.node.now (ap option_copied c.in_ok-node.was)
