use Rattle.std.proofs.Common.{◌∙◌, sym, ap}
use Rattle.std.specs.Option.{option_map}
use Rattle.nomos_machine.specs.Objects.{object_number}
use Rattle.nomos_state.specs.Indexed.{held_now}
use Rattle.nomos_state.specs.Sought.{is_message_using}
use Rattle.nomos_state.proofs.SeekLemmas.{first-found}
use Rattle.nomos_state.proofs.UsingLemmas.{user-is}
use Rattle.nomos_state.proofs.sought.user.Goals as goal

pub returns : goal.returns
returns c =
    let h = held_now c.args.contents.now in
    c.lower_of.ensures
    ∙ user-is h c.requires c.args.name c.lowest_user.result c.number_in.result c.lowest_user.ensures
    (c.number_in.ensures
    ∙ ap (option_map object_number)
    (sym (first-found (is_message_using c.args.name) h c.requires c.first.result c.first.ensures)))
