use Rattle.nomos_journal.specs.declared.line.JournalLine.TheVariants as line
use Rattle.nomos_journal.specs.declared.line.Version.TheVariants as version
use Rattle.nomos_walk.proofs.PaperLemmas.{two-lines}
use Rattle.std.proofs.Common.{◌∙◌}
use Rattle.nomos_walk.proofs.entry_text.push_front.Goals as goal

pub returns : goal.returns
returns c =
    c.in_ok-push_line-2.ensures
    ∙ two-lines c.args.unit (line.Head version.Two) (line.Steps c.args.limit) c.args.text.now.items
    c.push_line.new.text.items c.in_ok-push_line.ensures
