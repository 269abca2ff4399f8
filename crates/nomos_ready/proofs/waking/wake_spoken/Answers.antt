use Rattle.nomos_ready.proofs.CoverLaws.{spoken-covers}
use Rattle.nomos_ready.proofs.waking.wake_spoken.Goals as goal

pub returns : goal.returns
returns g c s typed same covers =
    spoken-covers c.know.ensures.accepted typed c.requires c.args.name same c.args.awake.now
    c.wake_provider.new.awake covers c.wake_provider.ensures.tells c.wake_provider.ensures.woken
