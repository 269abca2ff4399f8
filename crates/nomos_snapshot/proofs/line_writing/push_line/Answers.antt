-- Each line is written by its kind.
use Rattle.nomos_snapshot.proofs.line_writing.push_line.Goals as goal

pub returns-in-Head : goal.returns-in-Head
returns-in-Head c = rw c.in-Head.is (c.push_head.ensures c.args.program.now)

pub returns-in-Unit : goal.returns-in-Unit
returns-in-Unit c = rw c.in-Unit.is (c.push_unit.ensures c.args.program.now)

pub returns-in-Spent : goal.returns-in-Spent
returns-in-Spent c = rw c.in-Spent.is (c.push_spent.ensures c.args.program.now)

pub returns-in-Next : goal.returns-in-Next
returns-in-Next c = rw c.in-Next.is (c.push_next.ensures c.args.program.now)

pub returns-in-Account : goal.returns-in-Account
returns-in-Account c =
    let pushed = rw c.as_bytes.ensures.bytes at (c.push_account.ensures c.args.program.now) in
    rw c.in-Account.is pushed

pub returns-in-Contract : goal.returns-in-Contract
returns-in-Contract c =
    let pushed = rw c.as_bytes-in-Contract.ensures.bytes at (c.push_contract.ensures c.args.program.now) in
    rw c.in-Contract.is pushed

pub returns-in-Name : goal.returns-in-Name
returns-in-Name c = rw c.in-Name.is (c.push_typed_name.ensures c.args.program.now)

pub returns-in-Process : goal.returns-in-Process
returns-in-Process c = rw c.in-Process.is (c.push_process.ensures c.args.program.now)

pub returns-in-Value : goal.returns-in-Value
returns-in-Value c = rw c.in-Value.is (c.push_value_line.ensures c.args.program.now)

pub returns-in-List : goal.returns-in-List
returns-in-List c = rw c.in-List.is (c.push_list_line.ensures c.args.program.now)

pub returns-in-Channel : goal.returns-in-Channel
returns-in-Channel c = rw c.in-Channel.is (c.push_channel_line.ensures c.args.program.now)
