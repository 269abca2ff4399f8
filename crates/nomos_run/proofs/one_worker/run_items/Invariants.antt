use Rattle.std.proofs.Common.{take}
use Rattle.nomos_run.specs.mirror.Runs.{HasGone}
use Rattle.nomos_run.proofs.one_worker.run_items.Given as goal

-- the run has come as far as the items
abbrev pub invariant-items : goal.invariant-items
invariant-items g l =
    HasGone l.fn.way.walk.accepted l.fn.from l.fn.orders (take l.item-index l.items) l.way.entries.items l.ledger
    l.way.walk
