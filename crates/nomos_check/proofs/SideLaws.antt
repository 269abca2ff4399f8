-- The parts of nodes that are the same, by the side from which a process sees its channel.
use Rattle.std.proofs.Common.{◌≡◌}
use Rattle.nomos_ir.specs.declared.amount.Amount.{Amount}
use Rattle.nomos_ir.specs.declared.code_node.Chan.{Chan}
use Rattle.nomos_ir.specs.declared.code_node.Chan.TheVariants as chan
use Rattle.nomos_ir.specs.declared.ids.TypeId.{TypeId}
use Rattle.nomos_ir.specs.declared.type_node.TypeNode.TheVariants as node
use Rattle.nomos_types.specs.Premises.{by_side}

pub paid_amount-same : (c : Chan) (q r : Amount) (a b : TypeId)
    → by_side c (node.PotOut q a) (node.PotIn q a) ≡ by_side c (node.PotOut r b) (node.PotIn r b) → (q ≡ r) × (a ≡ b)
paid_amount-same chan.Own q r a b same = (cc, cc)
paid_amount-same (chan.Var v) q r a b same = (cc, cc)

pub got_amount-same : (c : Chan) (q r : Amount) (a b : TypeId)
    → by_side c (node.PotIn q a) (node.PotOut q a) ≡ by_side c (node.PotIn r b) (node.PotOut r b) → (q ≡ r) × (a ≡ b)
got_amount-same chan.Own q r a b same = (cc, cc)
got_amount-same (chan.Var v) q r a b same = (cc, cc)
