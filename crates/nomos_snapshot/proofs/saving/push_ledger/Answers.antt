-- The sections are written one behind another.
use Rattle.std.proofs.lemmas.Result.{on_ok_weaker}
use Rattle.nomos_snapshot.proofs.SavingLemmas.{ledger-written}
use Rattle.nomos_snapshot.proofs.saving.push_ledger.Goals as goal

pub returns : goal.returns
returns g c =
    let lists = c.args.accepted.now.program in
    let heads = rw c.unit.ensures at (rw c.in_ok-push_heads.was at (c.push_heads.ensures lists)) in
    let accounts = rw c.as_slice.ensures at (rw c.in_ok-push_accounts.was at (c.push_accounts.ensures lists)) in
    let contracts = rw c.in_ok-push_contracts.was at (c.push_contracts.ensures lists) in
    let names = rw (c.program-program.ensures.program, c.as_slice-2.ensures) at c.in_ok-push_names.ensures in
    let objects = rw (c.program-program.ensures.program, c.as_slice-3.ensures) at c.push_objects.ensures in
    on_ok_weaker c.push_objects.result
    (ledger-written {lists = lists} c.args.accepted.now.annotations.unit c.args.ledger.now c.args.contents.now
    c.requires.state heads accounts contracts names) objects
