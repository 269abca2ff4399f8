use Rattle.std.proofs.Common.{◌≡◌, ◌++◌, take}
use Rattle.std.specs.List.{flat_map}
use Rattle.nomos_journal.specs.Text.{lines_text}
use Rattle.nomos_replay.specs.mirror.VersionOne.{entry_lines_in_one}
use Rattle.nomos_replay.proofs.version_one.push_entries.Given as goal

-- the lines of the entries so far
abbrev pub invariant-loop-entry : goal.invariant-loop-entry
invariant-loop-entry l =
    l.text.items ≡ l.fn.text.items ++ lines_text l.unit (flat_map entry_lines_in_one (take l.entry-index l.entries))
