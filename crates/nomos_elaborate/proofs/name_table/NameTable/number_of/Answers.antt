use Rattle.std.proofs.Common.{ap, ◌∙◌, unwrap_or}
use Rattle.nomos_elaborate.proofs.NameTables.{place_or_len, place-number_of}
use Rattle.nomos_elaborate.specs.Names.{number_of}
use Rattle.nomos_elaborate.specs.Names.{Names}
use Rattle.nomos_elaborate.proofs.name_table.NameTable.number_of.Goals as goal

pub returns-clause-place : goal.returns-clause-place
returns-clause-place c =
    c.unwrap_or.ensures
    ∙ (λ i. unwrap_or (c.get_index_of.ensures.index i) (c.len.ensures.len i))
    ∙ place_or_len _ c.self.inside.texts.keys
    ∙ place-number_of (λ k. k.items) c.args.text.now c.self.inside.texts.keys
    ∙ ap (λ (names : Names). number_of names c.args.text.now) c.self.view_is
