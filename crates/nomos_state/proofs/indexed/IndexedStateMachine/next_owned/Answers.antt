use Rattle.std.proofs.Common.{subst}
use Rattle.nomos_deeds.specs.Lowest.{FindsNext}
use Rattle.nomos_deeds.specs.Readers.{IsLinearName}
use Rattle.nomos_state.specs.State.{IndexedMachine}
use Rattle.nomos_state.specs.declared.indexed.IndexedState.TheInside.{Inside}
use Rattle.nomos_state.proofs.indexed.IndexedStateMachine.next_owned.Goals as goal

pub returns : goal.returns
returns c =
    let lists = c.args.accepted.now.program in
    subst (λ (s : IndexedMachine). FindsNext (IsLinearName lists s.state.types) c.args.after c.next_owned.result)
    c.self.view_is
    (subst (λ (i : Inside). FindsNext (IsLinearName lists i.tallied.state.types) c.args.after c.next_owned.result)
    c.self-inside.view_is c.next_owned.ensures)
