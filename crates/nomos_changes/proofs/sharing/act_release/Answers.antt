use Rattle.nomos_changes.proofs.SharingLemmas.{release-made}
use Rattle.nomos_changes.proofs.sharing.act_release.Goals as goal

pub returns-clause-state : goal.returns-clause-state
returns-clause-state g c =
    release-made c.args.accepted.now (g.P.Sight.state c.args.parts.now) c.args.pid c.args.values.now c.args.release
    (g.P.Sight.state c.release_shared.new.parts) c.requires.can c.release_shared.ensures.state
