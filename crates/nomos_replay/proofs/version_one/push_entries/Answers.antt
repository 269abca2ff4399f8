use Rattle.std.proofs.Common.{◌∙◌, ◌++◌, ℕ, List, ap}
use Rattle.nomos_journal.specs.Text.{lines_text}
use Rattle.nomos_replay.specs.mirror.VersionOne.{entry_lines_in_one}
use Rattle.nomos_replay.proofs.VersionOneLemmas.{entries-more}
use Rattle.nomos_replay.proofs.version_one.push_entries.Goals as goal

pub loop-entry-preserved : goal.loop-entry-preserved
loop-entry-preserved c =
    let unit = c.args.unit in
    let e = c.entry-item.result in
    c.in_ok-push_entry.ensures
    ∙ ap (λ (t : List ℕ). t ++ lines_text unit (entry_lines_in_one e)) c.loop-entry.invariant
    ∙ entries-more unit c.args.text.now.items c.args.entries.now c.loop-entry.entry-index e c.loop-entry-test.true
    c.entry-item.is
