-- A message is over all objects exactly where its number is not below the least one.
use Rattle.std.proofs.Common.{◌+◌, ap, arith}
use Rattle.nomos_snapshot.proofs.GatheringLemmas.{message-taken, message-turn}
use Rattle.nomos_snapshot.proofs.gathered.Gathering.take_message.Goals as goal

pub returns-then-number-self : goal.returns-then-number-self
returns-then-number-self c = λ a next goes.
    absurd (omega (
      arith,
      (c.requires.objects c.args.message.number).0 (message-turn goes),
      c.if-number-self.true,
      c.from-number.ensures,
    ))

pub returns : goal.returns
returns c =
    message-taken c.args.self.now c.settle.new.self c.push.new.self c.args.message (c.from-number.result + 1) c.requires
    c.in_ok-settle.ensures (omega (arith, c.if-number-self.false, c.from-number.ensures)) c.in_ok-push.ensures.items
    (ap (λ n. n + 1) c.from-number.ensures)
