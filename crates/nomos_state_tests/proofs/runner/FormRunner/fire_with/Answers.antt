use Rattle.std.proofs.Common.{◌∙◌, arith}
use Rattle.nomos_state_tests.specs.PlainRuns.{Running}
use Rattle.nomos_state_tests.proofs.RunningLemmas.{fired-goes_on}
use Rattle.nomos_state_tests.proofs.runner.FormRunner.fire_with.Goals as goal

pub invariant_of-self-2 : goal.invariant_of-self-2
invariant_of-self-2 g c =
    let run : Running = record {
      accepted = c.self.inside.accepted;
      state = g.M.Sight.state c.self.inside.machine;
      left = c.self.inside.left;
    } in (
      fired-goes_on run c.self.invariant.0 (omega arith) c.args.pid c.in_ok-answer.answer
          (g.M.Sight.state c.fire_with.new.self) c.in_ok-answer.ensures.ok,
      c.fire_with.ensures.marked ∙ c.self.invariant.1,
    )
