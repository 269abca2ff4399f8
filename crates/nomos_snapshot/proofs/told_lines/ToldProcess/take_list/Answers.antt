-- A variable is over all others exactly where its number is not below the least one.
use Rattle.std.proofs.Common.{◌+◌, ap, arith}
use Rattle.nomos_snapshot.proofs.GatheringLemmas.{list-taken}
use Rattle.nomos_snapshot.proofs.told_lines.ToldProcess.take_list.Goals as goal

pub returns-then-from-self : goal.returns-then-from-self
returns-then-from-self c =
    λ over. absurd (omega (arith, (c.requires c.args.v).0 over, c.if-from-self.true, c.from.ensures))

pub returns : goal.returns
returns c =
    list-taken c.args.self.now c.push.new.self (c.from-2.result + 1) c.args.v c.args.list c.requires
    (omega (arith, c.if-from-self.false, c.from.ensures)) c.in_ok-push.ensures.items
    (ap (λ n. n + 1) c.from-2.ensures)
