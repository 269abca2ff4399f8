use Rattle.std.proofs.Common.{◌∙◌, ap, option_and_then}
use Rattle.std.specs.Option.{option_map}
use Rattle.nomos_machine.specs.Objects.{process_of}
use Rattle.nomos_machine.specs.declared.object.Object.{Object}
use Rattle.nomos_deeds.specs.Readers.{stands_for}
use Rattle.nomos_plain.specs.Parts.{object_in}
use Rattle.nomos_plain.proofs.FindLemmas.{find_mapped}
use Rattle.nomos_plain.proofs.readers.keeper.Goals as goal

pub returns : goal.returns
returns c =
    c.pid_of.ensures
    ∙ ap (λ o. option_map (λ p. p.pid) (option_and_then process_of (option_map object_in o))) c.object_standing.ensures
    ∙ ap (λ o. option_map (λ p. p.pid) (option_and_then process_of o))
    (find_mapped object_in (λ (o : Object). stands_for c.args.shared o) c.args.objects.now)
