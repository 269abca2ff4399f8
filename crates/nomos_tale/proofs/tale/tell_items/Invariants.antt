use Rattle.std.proofs.Common.{take}
use Rattle.nomos_tale.specs.mirror.Tales.{HasTold}
use Rattle.nomos_tale.proofs.tale.tell_items.Given as goal

-- the tale has come behind so many items
abbrev pub invariant-items : goal.invariant-items
invariant-items g l = HasTold l.accepted l.limit (take l.item-index l.items) l.ledger l.walk
