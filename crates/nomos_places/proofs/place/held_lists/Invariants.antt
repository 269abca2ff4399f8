use Rattle.std.proofs.Common.{◌≡◌, take}
use Rattle.nomos_ir.specs.Bindings.{each_bound}
use Rattle.nomos_places.specs.mirror.Making.{held}
use Rattle.nomos_places.proofs.place.held_lists.Given as goal

-- those so far are made
abbrev pub invariant-loop-entry : goal.invariant-loop-entry
invariant-loop-entry l = l.made.items ≡ each_bound (held l.accepted.annotations) (take l.entry-index l.lists)
