use Rattle.nomos_elaborate.proofs.NestingLaws.{reads-nested}
use Rattle.nomos_surface.specs.FileView.{file_tree}
use Rattle.nomos_contract_tests.proofs.process_tests.program_of.Goals as goal

pub elaborate-requires : goal.elaborate-requires
elaborate-requires c = record {
  limits = c.in-Ok.ensures.limits;
  nests = reads-nested _ (file_tree c.in-Ok.surface) c.in-Ok.ensures.answer.reads;
}
