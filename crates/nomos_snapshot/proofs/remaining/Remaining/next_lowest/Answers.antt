-- A value, a list or a channel comes off, whichever is the lowest.
use Rattle.nomos_snapshot.proofs.RemainingLemmas.{channel-taken, list-taken, none-long, none-taken, value-taken}
use Rattle.nomos_snapshot.proofs.remaining.Remaining.next_lowest.Goals as goal

pub returns-in-Some : goal.returns-in-Some
returns-in-Some c =
    let s = c.args.self.now in
    let taken = value-taken c.in-Some.first.now s.values.now c.in-Some.others.now s.lists.now s.channels.now c.requires
    c.in-Some.ensures.0 c.in-Some.ensures.1 c.in-Some.ensures.2 in
    record { lines = taken.lines; left = taken.left }

pub returns-in-Some-first_list : goal.returns-in-Some-first_list
returns-in-Some-first_list c =
    let s = c.args.self.now in
    let taken = list-taken c.in-Some-first_list.first.now s.values.now s.lists.now c.in-Some-first_list.others.now
    s.channels.now c.requires c.in-Some-first_list.ensures.0 c.in_default.ensures c.in-Some-first_list.ensures.1 in
    record { lines = taken.lines; left = taken.left }

pub returns-in_err-first : goal.returns-in_err-first
returns-in_err-first c =
    let s = c.args.self.now in
    rw c.from_residual.ensures
    (none-taken s.values.now s.lists.now s.channels.now c.requires
    (none-long s.channels.now c.in_err-first.ensures.cases) c.in_default.ensures c.in_default-first_list.ensures)

pub returns : goal.returns
returns c =
    let s = c.args.self.now in
    let taken = channel-taken c.in_ok-first.first.now s.values.now s.lists.now s.channels.now c.in_ok-first.others.now
    c.requires c.in_ok-first.ensures.cases.0 c.in_default.ensures c.in_default-first_list.ensures in
    record { lines = taken.lines; left = taken.left }
