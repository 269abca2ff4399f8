use Rattle.nomos_types.proofs.AmountLaws.{declared-is_amount_of}
use Rattle.nomos_types.proofs.accepted.declared.Goals as goal

pub returns-clause-amount : goal.returns-clause-amount
returns-clause-amount c =
    rw (c.as_slice.ensures, c.lists-lists.ensures.lists)
    (declared-is_amount_of c.args.program.now c.args.p.0 _ c.lists-lists.ensures.program.amounts c.requires)
