use Rattle.nomos_ready.proofs.CoverLaws.{fired-covers}
use Rattle.nomos_ready.proofs.waking.wake_after.Goals as goal

pub returns : goal.returns
returns g c s pid typed steps foreseen covers =
    fired-covers c.know.ensures.accepted typed c.requires pid c.args.foreseen steps foreseen
    c.args.awake.now c.leave.new.awake c.wake_changed.new.awake c.wake_born.new.awake c.wake_partner.new.awake
    c.wake_heard.new.awake c.offer_if.new.awake c.offer_if-2.new.awake covers c.leave.ensures c.wake_changed.ensures
    c.wake_born.ensures c.wake_partner.ensures c.wake_heard.ensures.woken c.wake_heard.ensures.tells
    c.offer_if.ensures.told c.offer_if.ensures.tells c.offer_if-2.ensures.told c.offer_if-2.ensures.tells
