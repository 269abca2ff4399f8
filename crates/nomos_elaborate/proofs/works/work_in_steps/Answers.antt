use Rattle.std.proofs.Common.{ap}
use Rattle.nomos_elaborate.proofs.WorkLaws.{flat-shown}
use Rattle.nomos_elaborate.specs.WrittenWork.{first_of_list, step_works}
use Rattle.nomos_surface.specs.StepView.{step_tree}
use Rattle.nomos_elaborate.proofs.works.work_in_steps.Goals as goal

pub loop-step-init : goal.loop-step-init
loop-step-init c = ap first_of_list (flat-shown step_works step_tree c.args.steps.now)
