use Rattle.std.proofs.Common.{◌∙◌, Option, option_and_then, sym, ap}
use Rattle.std.specs.Option.{option_map}
use Rattle.nomos_machine.specs.declared.object.Object.{Object}
use Rattle.nomos_state.specs.Indexed.{held_now}
use Rattle.nomos_deeds.specs.SeenObjects.{seen_process}
use Rattle.nomos_machine.specs.Objects.{process_of}
use Rattle.nomos_machine.specs.Sight.{is_offered}
use Rattle.nomos_state.proofs.SeekLemmas.{first-found}
use Rattle.nomos_state.proofs.sought.offering.Goals as goal

pub returns : goal.returns
returns c =
    c.process_in.ensures
    ∙ ap (λ (o : Option Object). option_map seen_process (option_and_then process_of o))
    (sym (first-found (is_offered c.args.name) (held_now c.args.contents.now) c.requires c.first.result
    c.first.ensures))
