-- The value was looked at.
use Rattle.std.proofs.Common.{refl}
use Rattle.std.proofs.lemmas.Result.{on_ok_weaker}
use Rattle.nomos_snapshot.specs.declared.line.SnapshotLine.TheVariants as line
use Rattle.nomos_snapshot.proofs.SavingLemmas.{writes-one}
use Rattle.nomos_snapshot.proofs.saving.push_value_of.Goals as goal

pub returns : goal.returns
returns c = λ lists.
    on_ok_weaker c.push_value_line.result
    (writes-one {lists = lists} (line.Value c.args.v c.args.value.now)
    (c.know_number.ensures, c.if-not-is_line_value.ensures.0 refl))
    (c.push_value_line.ensures lists)
