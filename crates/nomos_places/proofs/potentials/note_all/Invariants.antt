use Rattle.std.proofs.Common.{◌≡◌, take}
use Rattle.nomos_places.specs.mirror.Noting.{noted}
use Rattle.nomos_places.proofs.potentials.note_all.Given as goal

-- those so far are noted
abbrev pub invariant-loop-entry : goal.invariant-loop-entry
invariant-loop-entry l = l.potentials ≡ noted l.amounts (take l.entry-index l.forms) l.initial.potentials
