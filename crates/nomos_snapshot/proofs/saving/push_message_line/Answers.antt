-- The message was looked at.
use Rattle.std.proofs.Common.{refl}
use Rattle.std.proofs.lemmas.Result.{on_ok_weaker}
use Rattle.nomos_snapshot.specs.declared.line.SnapshotLine.TheVariants as line
use Rattle.nomos_snapshot.proofs.SavingLemmas.{writes-one}
use Rattle.nomos_snapshot.proofs.saving.push_message_line.Goals as goal

pub returns : goal.returns
returns c =
    on_ok_weaker c.push_message.result
    (writes-one {lists = c.args.program.now} (line.Message c.args.message.now)
    (c.if-not-is_message_line.ensures.0 refl))
    c.push_message.ensures
