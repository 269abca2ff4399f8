-- Both numbers are known.
use Rattle.std.proofs.lemmas.Result.{on_ok_weaker}
use Rattle.nomos_snapshot.specs.declared.line.SnapshotLine.TheVariants as line
use Rattle.nomos_snapshot.proofs.SavingLemmas.{writes-one}
use Rattle.nomos_snapshot.proofs.saving.push_channel_of.Goals as goal

pub returns : goal.returns
returns c = λ lists.
    on_ok_weaker c.push_channel_line.result
    (writes-one {lists = lists} (line.Channel c.args.v c.args.name) (c.know_number.ensures, c.know_number-2.ensures))
    (c.push_channel_line.ensures lists)
