-- The list was looked at.
use Rattle.std.proofs.Common.{◌<◌, ◌^◌, refl, arith}
use Rattle.std.proofs.lemmas.Result.{on_ok_weaker}
use Rattle.nomos_snapshot.specs.declared.line.SnapshotLine.TheVariants as line
use Rattle.nomos_snapshot.proofs.SavingLemmas.{writes-one}
use Rattle.nomos_snapshot.proofs.saving.push_list_of.Goals as goal

pub returns : goal.returns
returns c = λ lists.
    let list = c.args.list.now in
    let gas : list.amount < 2 ^ 95 = omega arith in
    let pushed = rw c.from-amount.ensures at (c.push_list_line.ensures lists) in
    on_ok_weaker c.push_list_line.result
    (writes-one {lists = lists} (line.List c.args.v list.amount list.items)
    (c.know_number.ensures, gas, c.if-not-is_line_list.ensures.0 refl)) pushed
