use Rattle.std.proofs.Common.{◌∙◌, ap}
use Rattle.nomos_ir.specs.declared.lists.ProgramLists.{ProgramLists}
use Rattle.nomos_deeds.specs.Readers.{looks_linear}
use Rattle.nomos_deeds.proofs.LinearNameLaws.{looks-linear}
use Rattle.nomos_deeds.proofs.unfolded_types.is_linear.Goals as goal

pub returns-clause-linear : goal.returns-clause-linear
returns-clause-linear c =
    looks-linear c.args.accepted.now c.args.t c.looks_linear.result c.program.ensures.accepted
    (c.looks_linear.ensures ∙ ap (λ (lists : ProgramLists). looks_linear lists c.args.t) c.program.ensures.program)
