use Rattle.nomos_accept.proofs.preparing.read.Goals as goal
use Rattle.nomos_elaborate.proofs.NestingLaws.{reads-nested}
use Rattle.nomos_surface.specs.FileView.{file_tree}

pub elaborate-requires : goal.elaborate-requires
elaborate-requires c = record {
  limits = c.in-Ok.ensures.limits;
  nests = reads-nested c.args.text.now (file_tree c.in-Ok.surface) c.in-Ok.ensures.answer.reads;
}

pub returns-in-Err-clause-answer : goal.returns-in-Err-clause-answer
returns-in-Err-clause-answer c = c.of_parse.ensures c.args.text.now c.in-Err.ensures.answer

pub returns-in-Ok-elaborate-clause-answer : goal.returns-in-Ok-elaborate-clause-answer
returns-in-Ok-elaborate-clause-answer c = record {
  tree = file_tree c.in-Ok.surface;
  reads = c.in-Ok.ensures.answer.reads;
  elaborates = c.in-Ok-elaborate.ensures.answer;
}

pub returns-clause-answer : goal.returns-clause-answer
returns-clause-answer c =
    c.of_names.ensures c.args.text.now (file_tree c.in-Ok.surface) c.in-Ok.ensures.answer.reads
    c.in-Err-elaborate.ensures.answer
