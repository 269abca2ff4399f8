use Rattle.std.proofs.Common.{◌≡◌, ◌∙◌, [], Option, Some, option_and_then, sym, ap}
use Rattle.std.specs.List.{slice_index_or}
use Rattle.std.specs.Option.{option_map}
use Rattle.nomos_deeds.specs.SeenObjects.{seen_process}
use Rattle.nomos_machine.specs.Objects.{process_of}
use Rattle.nomos_machine.specs.declared.object.Object.{Object}
use Rattle.nomos_state.specs.Indexed.{held_now, standing_at}
use Rattle.nomos_state.specs.Objects.{kept_at}
use Rattle.nomos_state.specs.declared.kept.Kept.TheVariants as kept
use Rattle.nomos_state.proofs.SeekLemmas.{process-standing}
use Rattle.nomos_state.proofs.sought.process_in.Goals as goal

pub returns-in-Some-default-Process : goal.returns-in-Some-default-Process
returns-in-Some-default-Process c =
    let h = held_now c.args.contents.now in
    let at = c.in_ok-place.field-0 in
    let w = c.in-Some-default-Process in
    let call = c.kept_at.ensures in
    let pair = w.is in
    let inner = w.field-0-1-is in
    let holds : kept_at h.slots at ≡ Some (w.number, kept.Process w.p) = cc in
    let stands : option_and_then (standing_at h) c.args.place ≡ standing_at h at =
    ap (option_and_then (standing_at h)) c.in_ok-place.was
    in
    ap Some (c.seen_process.ensures h.cells (slice_index_or h.value_rows at []) (slice_index_or h.list_rows at []))
    ∙ sym (ap (λ (o : Option Object). option_map seen_process (option_and_then process_of o))
    (stands ∙ process-standing h at w.number w.p holds))
