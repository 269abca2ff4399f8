-- The process was looked at, and its variables stand behind it.
use Rattle.std.proofs.Common.{refl}
use Rattle.std.proofs.lemmas.Result.{on_ok_weaker}
use Rattle.nomos_snapshot.proofs.SavingLemmas.{process-written}
use Rattle.nomos_snapshot.proofs.saving.push_process_lines.Goals as goal

pub returns : goal.returns
returns c =
    let lists = c.args.program.now in
    let pushed = rw c.in_ok-push_process.was at (c.push_process.ensures lists) in
    on_ok_weaker c.push_variables.result
    (process-written {lists = lists} c.args.process.now c.seen_of-seen.result c.seen_of-seen.ensures
    (c.if-not-is_process_line.ensures.0 refl) pushed)
    (c.push_variables.ensures lists)
