-- A mirror: the lines of a journal's text in version 1, along its entries.
use Rattle.std.specs.Prelude.{List, [], ◌∷◌, ◌++◌, map}
use Rattle.std.specs.List.{flat_map}
use Rattle.nomos_legal.specs.declared.journal.Entry.{Entry}
use Rattle.nomos_legal.specs.declared.journal.Journal.{Journal}
use Rattle.nomos_journal.specs.declared.line.JournalLine.{JournalLine}
use Rattle.nomos_journal.specs.declared.line.JournalLine.TheVariants as line
use Rattle.nomos_journal.specs.declared.line.Version.TheVariants as version

-- the lines of an entry
abbrev pub entry_lines_in_one : Entry → List JournalLine
entry_lines_in_one entry = line.Line entry.line ∷ (map line.Pid entry.firings ++ line.End entry.end ∷ [])

-- the lines of a journal
abbrev pub lines_in_one : Journal → List JournalLine
lines_in_one journal =
    line.Head version.One ∷ line.Steps journal.limit ∷ flat_map entry_lines_in_one journal.entries
