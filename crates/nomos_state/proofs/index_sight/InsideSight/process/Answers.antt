use Rattle.std.proofs.Common.{◌∙◌, Some, sym, ap}
use Rattle.std.specs.Option.{option_map}
use Rattle.nomos_machine.specs.State.{process_at}
use Rattle.nomos_deeds.specs.SeenObjects.{seen_process}
use Rattle.nomos_state.specs.Indexed.{Indexed, held_now}
use Rattle.nomos_state.specs.Looked.{lists_at, values_at}
use Rattle.nomos_state.proofs.index_sight.InsideSight.process.Goals as goal

pub returns : goal.returns
returns c =
    let h = held_now c.self.inside.contents in
    let place = c.in_ok-p.field-0-0 in
    ap Some (c.seen_process.ensures h.cells (values_at h place) (lists_at h place))
    ∙ sym (ap (option_map seen_process) c.in_ok-p.ensures.found)
    ∙ ap (λ (s : Indexed). option_map seen_process (process_at s.state c.args.pid)) c.self.view_is
