use Rattle.std.proofs.Common.{sym, subst}
use Rattle.nomos_machine.specs.State.{State}
use Rattle.nomos_state_tests.specs.PlainRuns.{GoesOn}
use Rattle.nomos_state_tests.proofs.RunningLemmas.{empty-goes_on}
use Rattle.nomos_state_tests.proofs.runner.FormRunner.new.Goals as goal

pub invariant_of-result : goal.invariant_of-result
invariant_of-result g c = (
  subst (λ (s : State). GoesOn (record { accepted = c.args.accepted; state = s; left = 1000000 }))
      (sym c.requires.state) (empty-goes_on c.args.accepted c.know.ensures.accepted),
  c.requires.marked,
)
