use Rattle.std.proofs.Common.{◌∙◌, Option, option_and_then, sym, ap}
use Rattle.std.specs.Option.{option_map}
use Rattle.nomos_machine.specs.declared.object.Object.{Object}
use Rattle.nomos_state.specs.Indexed.{held_now}
use Rattle.nomos_deeds.specs.Readers.{stands_for}
use Rattle.nomos_machine.specs.Objects.{process_of}
use Rattle.nomos_state.proofs.SeekLemmas.{first-found, pid-seen}
use Rattle.nomos_state.proofs.sought.keeper.Goals as goal

pub returns : goal.returns
returns c =
    c.pid_of.ensures ∙ ap (option_map (λ p. p.pid)) c.process_in.ensures ∙ pid-seen _
    ∙ ap (λ (o : Option Object). option_map (λ p. p.pid) (option_and_then process_of o))
    (sym (first-found (stands_for c.args.shared) (held_now c.args.contents.now) c.requires c.first.result
    c.first.ensures))
