-- What is written and what is left are the lines of all firings.
use Rattle.std.proofs.Common.{◌++◌}
use Rattle.nomos_legal.specs.World.{pids_of}
use Rattle.nomos_journal.specs.JournalText.{placed_lines}
use Rattle.nomos_journal.specs.Text.{lines_text}
use Rattle.nomos_journal.proofs.PlacedLemmas.{Written}
use Rattle.nomos_journal.proofs.firing_lines.push_firings.Given as goal

abbrev pub invariant-loop-firing : goal.invariant-loop-firing
invariant-loop-firing l =
    Written l.accepted l.firings l.firing-index l.left
    (l.fn.text.items ++ lines_text l.accepted.annotations.unit
    (placed_lines l.accepted (pids_of l.firings) l.fn.places))
    l.text.items
