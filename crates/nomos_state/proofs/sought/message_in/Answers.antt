use Rattle.std.proofs.Common.{◌≡◌, ◌∙◌, [], Option, Some, option_and_then, sym, ap}
use Rattle.std.specs.List.{slice_index_or}
use Rattle.std.specs.Option.{option_map}
use Rattle.nomos_deeds.specs.SeenObjects.{seen_message}
use Rattle.nomos_machine.specs.Objects.{message_of}
use Rattle.nomos_machine.specs.declared.object.Object.{Object}
use Rattle.nomos_state.specs.Indexed.{held_now, standing_at}
use Rattle.nomos_state.specs.Objects.{kept_at}
use Rattle.nomos_state.specs.declared.kept.Kept.TheVariants as kept
use Rattle.nomos_state.proofs.SeekLemmas.{message-standing, value-standing}
use Rattle.nomos_state.proofs.sought.message_in.Goals as goal

pub returns-in-Some-default-Message : goal.returns-in-Some-default-Message
returns-in-Some-default-Message c =
    let h = held_now c.args.contents.now in
    let at = c.in_ok-place.field-0 in
    let w = c.in-Some-default-Message in
    let call = c.kept_at.ensures in
    let pair = w.is in
    let inner = w.field-0-1-is in
    let holds : kept_at h.slots at ≡ Some (w.number, kept.Message w.m) = cc in
    let stands : option_and_then (standing_at h) c.args.place ≡ standing_at h at =
    ap (option_and_then (standing_at h)) c.in_ok-place.was
    in
    ap Some (c.seen_message.ensures (slice_index_or h.value_rows at [])
    (value-standing h c.requires at w.number w.m holds))
    ∙ sym (ap (λ (o : Option Object). option_map seen_message (option_and_then message_of o))
    (stands ∙ message-standing h at w.number w.m holds))
