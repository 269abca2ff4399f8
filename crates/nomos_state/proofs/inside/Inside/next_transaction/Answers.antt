use Rattle.std.proofs.Common.{subst}
use Rattle.nomos_deeds.specs.Lowest.{FindsNext}
use Rattle.nomos_deeds.specs.Readers.{IsTransaction}
use Rattle.nomos_state.specs.Indexed.{Indexed}
use Rattle.nomos_state.proofs.inside.Inside.next_transaction.Goals as goal

pub returns : goal.returns
returns c =
    subst (λ (i : Indexed). FindsNext (IsTransaction i.state.objects) c.args.after c.next_transaction.result)
    c.self.view_is c.next_transaction.ensures
