use Rattle.std.proofs.Common.{◌≡◌, map, drop}
use Rattle.std.specs.List.{flat_map}
use Rattle.nomos_elaborate.specs.WrittenWork.{first_of_list, step_works}
use Rattle.nomos_surface.specs.StepView.{step_tree}
use Rattle.nomos_elaborate.proofs.works.work_in_steps.Given as goal

-- the steps that are left have the first `work` of all
abbrev pub invariant-loop-step : goal.invariant-loop-step
invariant-loop-step l =
    first_of_list (flat_map (λ s. step_works (step_tree s)) (drop l.step-index l.steps))
    ≡ first_of_list (flat_map step_works (map step_tree l.steps))
