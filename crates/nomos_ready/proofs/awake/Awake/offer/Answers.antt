use Rattle.nomos_ready.proofs.AwakeLemmas.{offered}
use Rattle.nomos_ready.proofs.awake.Awake.offer.Goals as goal

pub returns-clause-told : goal.returns-clause-told
returns-clause-told c =
    offered c.args.self.now c.wake_over.new.self c.wake_over-2.new.self c.args.name c.wake_over.ensures.tells
    c.wake_over-2.ensures.tells c.wake_over.ensures.told c.wake_over-2.ensures.told
