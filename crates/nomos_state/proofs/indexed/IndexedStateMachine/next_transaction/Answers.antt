use Rattle.std.proofs.Common.{subst}
use Rattle.nomos_deeds.specs.Lowest.{FindsNext}
use Rattle.nomos_deeds.specs.Readers.{IsTransaction}
use Rattle.nomos_state.specs.State.{IndexedMachine}
use Rattle.nomos_state.specs.declared.indexed.IndexedState.TheInside.{Inside}
use Rattle.nomos_state.proofs.indexed.IndexedStateMachine.next_transaction.Goals as goal

pub returns : goal.returns
returns c =
    subst (λ (s : IndexedMachine). FindsNext (IsTransaction s.state.objects) c.args.after c.next_transaction.result)
    c.self.view_is
    (subst (λ (i : Inside). FindsNext (IsTransaction i.tallied.state.objects) c.args.after c.next_transaction.result)
    c.self-inside.view_is c.next_transaction.ensures)
