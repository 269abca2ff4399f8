-- The name is a script's.
use Rattle.std.proofs.lemmas.Result.{on_ok_weaker}
use Rattle.nomos_snapshot.specs.declared.line.SnapshotLine.TheVariants as line
use Rattle.nomos_snapshot.proofs.SavingLemmas.{writes-one}
use Rattle.nomos_snapshot.proofs.saving.push_contract_line.Goals as goal

pub returns : goal.returns
returns c = λ lists.
    let pushed = rw c.as_bytes.ensures.value at (c.push_contract.ensures lists) in
    on_ok_weaker c.push_contract.result
    (writes-one {lists = lists} (line.Contract c.args.name.now c.args.shared)
    (c.requires, c.know_number.ensures)) pushed
