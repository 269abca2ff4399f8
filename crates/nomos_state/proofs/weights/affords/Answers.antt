use Rattle.std.proofs.Common.{◌∙◌, arith}
use Rattle.nomos_state.specs.Objects.{potential_in}
use Rattle.nomos_state.proofs.PotentialLemmas.{both-told, potential-sum}
use Rattle.nomos_state.proofs.weights.affords.Goals as goal

pub returns-in-Some : goal.returns-in-Some
returns-in-Some c =
    c.covers.ensures
    ∙ both-told c.args.gas c.in-Some.left (potential_in c.args.lists.now) _ c.args.purse
    (potential-sum c.args.lists.now) (omega (arith, c.from.ensures, c.in-Some.ensures))
