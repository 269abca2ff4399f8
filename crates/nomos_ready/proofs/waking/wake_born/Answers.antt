use Rattle.std.proofs.Common.{arith}
use Rattle.nomos_ready.proofs.CoverLaws.{nobody-born}
use Rattle.nomos_ready.proofs.waking.wake_born.Goals as goal

pub returns-else-number-next_object : goal.returns-else-number-next_object
returns-else-number-next_object g c =
    nobody-born c.requires c.args.number c.args.awake.now
    (omega (arith, c.next_object.ensures, c.if-number-next_object.false))
