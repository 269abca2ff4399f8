use Rattle.nomos_deeds.proofs.WalkLaws.{names-next}
use Rattle.nomos_plain.proofs.readers.next_owned.Goals as goal

pub returns : goal.returns
returns c =
    names-next c.args.accepted.now c.know.ensures.accepted c.args.after c.args.types.now c.requires _
    c.first_linear.ensures c.name_of.result c.name_of.ensures
