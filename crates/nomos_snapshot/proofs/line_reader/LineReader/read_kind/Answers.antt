-- The labels are those of the program.
use Rattle.std.proofs.Common.{ap, ◌∙◌}
use Rattle.nomos_ir.specs.declared.lists.ProgramLists.{ProgramLists}
use Rattle.nomos_snapshot.proofs.line_reader.LineReader.read_kind.Goals as goal

pub returns-in-Message : goal.returns-in-Message
returns-in-Message c =
    rw c.in-Message.is
    (c.read_message.ensures c.args.self.now
    (c.self.invariant ∙ ap (λ (p : ProgramLists). p.labels) c.self.view_is))
