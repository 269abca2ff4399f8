use Rattle.std.proofs.Common.{◌∙◌, arith}
use Rattle.nomos_state_tests.specs.PlainRuns.{Running}
use Rattle.nomos_state_tests.proofs.RunningLemmas.{opened-goes_on}
use Rattle.nomos_state_tests.proofs.runner.FormRunner.deposit.Goals as goal

pub invariant_of-self-2 : goal.invariant_of-self-2
invariant_of-self-2 g c =
    let run : Running = record {
      accepted = c.self.inside.accepted;
      state = g.M.Sight.state c.self.inside.machine;
      left = c.self.inside.left;
    } in (
      opened-goes_on run c.self.invariant.0 (omega arith) c.from.result (g.M.Sight.state c.open_account.new.self)
          (omega arith) c.in_ok-account.ensures.ok.1,
      c.open_account.ensures.marked ∙ c.self.invariant.1,
    )
