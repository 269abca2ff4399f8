use Rattle.std.proofs.Common.{◌∙◌, ap, sym, subst}
use Rattle.nomos_deeds.specs.Lowest.{FindsNext}
use Rattle.nomos_deeds.specs.Readers.{IsLinearName}
use Rattle.nomos_machine.specs.State.{State}
use Rattle.nomos_boxed.specs.InBox.{state_in}
use Rattle.nomos_boxed.proofs.boxed_machine.BoxedMachine.next_owned.Goals as goal

pub returns-in-Some : goal.returns-in-Some
returns-in-Some g c =
    subst (λ (s : State).
    FindsNext (IsLinearName c.args.accepted.now.program s.types) c.args.after c.next_owned.result)
    (ap (λ m. g.M.Sight.state m) c.deref.ensures ∙ ap (state_in (λ m. g.M.Sight.state m.value)) (sym c.in-Some.is))
    c.next_owned.ensures
