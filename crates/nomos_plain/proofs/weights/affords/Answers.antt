use Rattle.std.proofs.Common.{◌∙◌, ap, arith}
use Rattle.nomos_changes.specs.Gives.{potential_in}
use Rattle.nomos_plain.proofs.PotentialLemmas.{both-told, potential-sum}
use Rattle.nomos_plain.proofs.weights.affords.Goals as goal

pub returns-in-Some : goal.returns-in-Some
returns-in-Some c =
    c.is_some.ensures
    ∙ both-told c.purse_beside.result c.args.gas c.in-Some.left (potential_in c.deref.result.now) _ c.args.p.now.purse
    c.purse_beside.ensures (ap potential_in c.deref.ensures.value ∙ potential-sum c.args.p.now.lists.items)
    (omega (arith, c.from.ensures, c.in-Some.ensures))
