use Rattle.std.proofs.Common.{◌∙◌, ap}
use Rattle.nomos_machine.specs.Objects.{potential_of}
use Rattle.nomos_typed.specs.mirror.Purses.{carried_in}
use Rattle.nomos_typed.proofs.PurseLemmas.{carried-sum, free-told}
use Rattle.nomos_typed.proofs.purses.free_purse.Goals as goal

pub returns : goal.returns
returns c =
    let p = c.args.process.now in
    free-told c.left_beside.result p.purse (carried_in c.as_slice.result.now) (potential_of p)
    (ap carried_in c.as_slice.ensures ∙ carried-sum p.lists) c.left_beside.ensures
