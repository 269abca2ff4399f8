use Rattle.nomos_plain.proofs.WalkLemmas.{ready-next}
use Rattle.nomos_plain.proofs.readers.next_ready.Goals as goal

pub returns : goal.returns
returns g c =
    ready-next c.args.accepted.now (g.S.Sight.state c.args.sight.now) c.know.ensures.accepted
    c.requires.typed
    c.args.after c.args.objects.now c.requires.objects _ c.first_ready.ensures c.pid_of.result c.pid_of.ensures
