use Rattle.std.proofs.Common.{ap}
use Rattle.nomos_elaborate.proofs.WorkLaws.{arms-flat}
use Rattle.nomos_elaborate.specs.WrittenWork.{first_of_list}
use Rattle.nomos_surface.specs.CodeView.{arm_tree}
use Rattle.nomos_elaborate.proofs.works.+works.Goals as goal

pub work_in_arms-loop-arm-init : goal.work_in_arms-loop-arm-init
work_in_arms-loop-arm-init t c = ap first_of_list (arms-flat arm_tree c.args.arms.now)
