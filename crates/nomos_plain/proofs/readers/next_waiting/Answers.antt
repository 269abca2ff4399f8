use Rattle.nomos_plain.proofs.WalkLemmas.{waiting-next}
use Rattle.nomos_plain.proofs.readers.next_waiting.Goals as goal

pub returns : goal.returns
returns c =
    waiting-next c.args.accepted.now c.args.after c.args.objects.now c.requires _ c.first_acquiring.ensures
    c.pid_of.result c.pid_of.ensures
