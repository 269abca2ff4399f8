use Rattle.std.proofs.Common.{◌∙◌}
use Rattle.nomos_state_tests.specs.PlainRuns.{Running}
use Rattle.nomos_state_tests.proofs.RunningLemmas.{cleared-goes_on}
use Rattle.nomos_state_tests.proofs.runner.FormRunner.clear.Goals as goal

pub invariant_of-self : goal.invariant_of-self
invariant_of-self g c =
    let run : Running = record {
      accepted = c.self.inside.accepted;
      state = g.M.Sight.state c.self.inside.machine;
      left = c.self.inside.left;
    } in (
      cleared-goes_on run (g.M.Sight.state c.clear_results.new.self) c.self.invariant.0 c.clear_results.ensures.state,
      c.clear_results.ensures.marked ∙ c.self.invariant.1,
    )
