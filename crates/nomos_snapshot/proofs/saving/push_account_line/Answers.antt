-- The name is a script's, and the balance was looked at.
use Rattle.std.proofs.Common.{refl}
use Rattle.std.proofs.lemmas.Result.{on_ok_weaker}
use Rattle.nomos_snapshot.specs.declared.line.SnapshotLine.TheVariants as line
use Rattle.nomos_snapshot.proofs.SavingLemmas.{writes-one}
use Rattle.nomos_snapshot.proofs.saving.push_account_line.Goals as goal

pub returns : goal.returns
returns c = λ lists.
    let pushed = rw c.as_bytes.ensures.value at (c.push_account.ensures lists) in
    on_ok_weaker c.push_account.result
    (writes-one {lists = lists} (line.Account c.args.name.now c.args.dths)
    (c.requires, c.if-not-is_gas.ensures.0 refl)) pushed
