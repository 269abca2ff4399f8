use Rattle.std.proofs.Common.{◌∙◌, Some, sym, ap}
use Rattle.std.specs.Option.{option_map}
use Rattle.nomos_deeds.specs.SeenObjects.{seen_message}
use Rattle.nomos_state.specs.Indexed.{held_now}
use Rattle.nomos_state.specs.Looked.{values_at}
use Rattle.nomos_state.proofs.SeekLemmas.{value-standing}
use Rattle.nomos_state.proofs.readings.message.Goals as goal

pub returns : goal.returns
returns c =
    let h = held_now c.args.contents.now in
    let place = c.in_ok-m.field-0-0 in
    ap Some (c.seen_message.ensures (values_at h place)
    (value-standing h c.requires place c.args.number c.in_ok-m.m c.in_ok-m.ensures.at))
    ∙ sym (ap (option_map seen_message) c.in_ok-m.ensures.found)
