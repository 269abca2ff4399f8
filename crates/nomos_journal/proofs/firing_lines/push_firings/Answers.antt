-- Firings past the last instruction have no lines.
use Rattle.std.proofs.Common.{◌++◌}
use Rattle.nomos_legal.specs.World.{pids_of}
use Rattle.nomos_journal.specs.JournalText.{placed_lines}
use Rattle.nomos_journal.specs.Text.{lines_text}
use Rattle.nomos_journal.proofs.PlacedLemmas.{Written-out}
use Rattle.nomos_journal.proofs.firing_lines.push_firings.Goals as goal

pub returns-in_default : goal.returns-in_default
returns-in_default c =
    Written-out c.args.accepted.now c.args.firings.now c.loop-firing.firing-index c.loop-firing.left.now
    (c.args.text.now.items ++ lines_text c.args.accepted.now.annotations.unit
    (placed_lines c.args.accepted.now (pids_of c.args.firings.now) c.args.places.now))
    c.loop-firing.text.items c.in_default.len_below c.loop-firing.invariant
