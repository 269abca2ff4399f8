use Rattle.std.proofs.Common.{◌∙◌, ◌++◌, ◌∷◌, [], ℕ, List, ap, get_or}
use Rattle.nomos_journal.specs.Line.{line_text}
use Rattle.nomos_journal.specs.declared.line.JournalLine.TheVariants as line
use Rattle.nomos_replay.proofs.VersionOneLemmas.{pids-more}
use Rattle.nomos_replay.proofs.version_one.push_pids.Goals as goal

pub loop-pid-preserved : goal.loop-pid-preserved
loop-pid-preserved c =
    let unit = c.args.unit in
    let pids = c.args.pids.now in
    let n = c.loop-pid.pid-index in
    c.in_ok-push_line.ensures
    ∙ ap (λ (t : List ℕ). t ++ (line_text unit (line.Pid (get_or pids n 0)) ++ 10 ∷ [])) c.loop-pid.invariant
    ∙ pids-more unit c.args.text.now.items pids n c.loop-pid-test.true
