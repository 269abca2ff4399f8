use Rattle.std.proofs.Common.{◌∙◌, ◌++◌, List, ap}
use Rattle.std.specs.List.{flat_map}
use Rattle.nomos_legal.specs.declared.journal.Entry.{Entry}
use Rattle.nomos_journal.specs.Text.{lines_text}
use Rattle.nomos_journal.specs.declared.line.JournalLine.TheVariants as line
use Rattle.nomos_journal.specs.declared.line.Version.TheVariants as version
use Rattle.nomos_replay.specs.mirror.VersionOne.{entry_lines_in_one}
use Rattle.nomos_replay.proofs.VersionOneLemmas.{front-lines}
use Rattle.nomos_replay.proofs.version_one.text_in_one.Goals as goal

pub returns : goal.returns
returns c =
    let unit = c.args.unit in
    let journal = c.args.journal.now in
    let steps = c.push_line-2.new.text.items in
    front-lines unit (line.Head version.One) (line.Steps journal.limit) (flat_map entry_lines_in_one journal.entries)
    c.new-text.result.items c.push_line.new.text.items steps c.push_entries.new.text.items c.new-text.ensures.items
    c.in_ok-push_line.ensures c.in_ok-push_line-2.ensures
    (c.in_ok-push_entries.ensures
    ∙ ap (λ (es : List Entry). steps ++ lines_text unit (flat_map entry_lines_in_one es)) c.as_slice.ensures)
