-- A process is over all objects exactly where its number is not below the least one.
use Rattle.std.proofs.Common.{◌+◌, ap, arith}
use Rattle.nomos_snapshot.proofs.GatheringLemmas.{process-taken, process-turn}
use Rattle.nomos_snapshot.proofs.gathered.Gathering.take_process.Goals as goal

pub returns-then-from-self : goal.returns-then-from-self
returns-then-from-self c = λ a next goes.
    absurd (omega (
      arith,
      (c.requires.objects c.args.seen.pid).0 (process-turn goes),
      c.if-from-self.true,
      c.from.ensures,
    ))

pub returns : goal.returns
returns c =
    process-taken c.args.self.now c.settle.new.self c.new.result c.args.seen (c.from-2.result + 1) c.requires
    c.in_ok-settle.ensures (omega (arith, c.if-from-self.false, c.from.ensures)) c.new.ensures.told c.new.ensures.kept
    (ap (λ n. n + 1) c.from-2.ensures)
