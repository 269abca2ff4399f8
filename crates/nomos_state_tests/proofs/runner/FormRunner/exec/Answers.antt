use Rattle.std.proofs.Common.{◌≡◌, ◌∙◌, [], sym, arith}
use Rattle.nomos_state_tests.specs.PlainRuns.{Running}
use Rattle.nomos_state_tests.proofs.RunningLemmas.{can-start, started-goes_on}
use Rattle.nomos_state_tests.proofs.runner.FormRunner.exec.Goals as goal

pub start-requires-clause-start : goal.start-requires-clause-start
start-requires-clause-start g c =
    let nothing : c.empty-nothing.result ≡ [] = c.empty-nothing.ensures in
    can-start c.self.inside.accepted (g.M.Sight.state c.self.inside.machine) c.in-Some.f.0 c.args.payer c.bound.result
    c.in-Some-balance.dths c.empty-nothing.result nothing c.in-Some.ensures.number c.in-Some.ensures.takes
    c.bound.ensures (sym c.in-Some-balance.ensures) (omega arith)

pub invariant_of-self-2 : goal.invariant_of-self-2
invariant_of-self-2 g c =
    let run : Running = record {
      accepted = c.self.inside.accepted;
      state = g.M.Sight.state c.self.inside.machine;
      left = c.self.inside.left;
    } in
    let nothing : c.empty-nothing.result ≡ [] = c.empty-nothing.ensures in (
      started-goes_on run c.self.invariant.0 (omega arith) c.in-Some.f.0 c.args.payer c.empty-nothing.result
          (g.M.Sight.state c.start.new.self)
          (can-start c.self.inside.accepted (g.M.Sight.state c.self.inside.machine) c.in-Some.f.0 c.args.payer
          c.bound.result c.in-Some-balance.dths c.empty-nothing.result nothing c.in-Some.ensures.number
          c.in-Some.ensures.takes c.bound.ensures (sym c.in-Some-balance.ensures) (omega arith))
          c.in_ok-pid.ensures.ok.1,
      c.start.ensures.marked ∙ c.self.invariant.1,
    )
