use Rattle.std.proofs.Common.{◌≡◌, ◌∙◌, slice_get}
use Rattle.nomos_state_tests.proofs.RunningLemmas.{frugal-told}
use Rattle.nomos_state_tests.proofs.runner.FormRunner.is_frugal.Goals as goal

pub returns-in-Some-find_code : goal.returns-in-Some-find_code
returns-in-Some-find_code g c frugal =
    let lists : c.lists.result.now ≡ c.self.inside.accepted.program =
    c.lists.ensures.lists ∙ c.program.ensures.program
    in
    rw (← c.self.view_is)
    (frugal-told c.self.inside.accepted (g.M.Sight.state c.self.inside.machine) c.args.pid c.in-Some.view
    c.in-Some-find_code.node.now c.in-Some.ensures
    (c.in-Some-find_code.ensures ∙ (λ i. slice_get (lists i).code c.in-Some.view.code.0))
    (c.is_frugal_node.ensures c.self.inside.accepted.program frugal))
