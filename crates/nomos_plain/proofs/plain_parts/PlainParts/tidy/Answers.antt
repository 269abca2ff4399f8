use Rattle.std.proofs.Common.{◌∙◌, ap, filter}
use Rattle.nomos_machine.specs.State.{NameTypes}
use Rattle.nomos_plain.specs.Parts.{any_mentions, state_of}
use Rattle.nomos_plain.proofs.FindLemmas.{mentioned_names}
use Rattle.nomos_plain.proofs.plain_parts.PlainParts.tidy.Goals as goal

pub returns-clause-state : goal.returns-clause-state
returns-clause-state c =
    ap (λ (types : NameTypes). record (state_of c.args.self.now) { types = types })
    (c.drop_unmentioned.ensures.items
    ∙ ap (λ os. filter (λ t. any_mentions os t.0) c.args.self.now.types.items) c.deref.ensures.value
    ∙ mentioned_names c.args.self.now.objects.items c.args.self.now.types.items)
