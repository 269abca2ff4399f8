use Rattle.std.proofs.Common.{ap}
use Rattle.nomos_elaborate.proofs.WorkLaws.{flat-shown}
use Rattle.nomos_elaborate.specs.WrittenWork.{decl_works, first_of_list}
use Rattle.nomos_surface.specs.FileView.{decl_tree}
use Rattle.nomos_elaborate.proofs.works.work_in_decls.Goals as goal

pub loop-decl-init : goal.loop-decl-init
loop-decl-init c = ap first_of_list (flat-shown decl_works decl_tree c.args.decls.now)
