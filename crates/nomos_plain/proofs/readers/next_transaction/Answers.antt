use Rattle.nomos_plain.proofs.WalkLemmas.{transactions-next}
use Rattle.nomos_plain.proofs.readers.next_transaction.Goals as goal

pub returns : goal.returns
returns c =
    transactions-next c.args.after c.args.objects.now c.requires _ c.first_transaction.ensures c.pid_of.result
    c.pid_of.ensures
