use Rattle.std.proofs.Common.{Option, ◌∙◌, sym, ap}
use Rattle.nomos_deeds.specs.Readers.{acquires}
use Rattle.nomos_machine.specs.Optional.{◌>>=◌}
use Rattle.nomos_machine.specs.declared.object.Process.{Process}
use Rattle.nomos_state.specs.Indexed.{held_now}
use Rattle.nomos_state.specs.Looked.{lists_at, values_at}
use Rattle.nomos_state.proofs.readings.waits.Goals as goal

pub returns : goal.returns
returns c =
    let h = held_now c.args.contents.now in
    let place = c.in_ok-p.field-0-0 in
    c.acquires.ensures (values_at h place) (lists_at h place)
    ∙ sym (ap (λ (o : Option Process). o >>= acquires c.args.accepted.now) c.in_ok-p.ensures.found)
