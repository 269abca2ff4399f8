use Rattle.std.proofs.Common.{ap, ◌∙◌}
use Rattle.nomos_elaborate.proofs.NameTables.{any-is_among}
use Rattle.nomos_elaborate.specs.Names.{is_among}
use Rattle.nomos_elaborate.specs.Names.{Names}
use Rattle.nomos_elaborate.proofs.name_table.NameTable.has.Goals as goal

pub returns : goal.returns
returns c =
    c.contains.ensures ∙ any-is_among (λ k. k.items) c.args.text.now c.self.inside.texts.keys
    ∙ ap (λ (names : Names). is_among names c.args.text.now) c.self.view_is
