use Rattle.nomos_changes.proofs.SharingLemmas.{acquire-made}
use Rattle.nomos_changes.proofs.sharing.act_acquire.Goals as goal

pub returns-clause-state : goal.returns-clause-state
returns-clause-state g c =
    acquire-made c.args.accepted.now (g.P.Sight.state c.args.parts.now) c.args.pid c.args.values.now c.args.acquire
    (g.P.Sight.state c.acquire_shared.new.parts) c.requires.can c.acquire_shared.ensures.state
