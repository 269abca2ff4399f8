use Rattle.std.proofs.Common.{◌∙◌, sym, ap}
use Rattle.nomos_ir.specs.Bindings.{bound_to}
use Rattle.nomos_machine.specs.State.{process_at}
use Rattle.nomos_machine.specs.declared.object.Process.{Process}
use Rattle.nomos_state.specs.Indexed.{Indexed, held_now}
use Rattle.nomos_state.proofs.ChannelLemmas.{bound-in_channels}
use Rattle.nomos_state.proofs.LookLemmas.{process-stands}
use Rattle.nomos_state.proofs.index_sight.InsideSight.channel.Goals as goal

pub returns : goal.returns
returns c p there =
    let h = held_now c.self.inside.contents in
    let at = ap (λ (s : Indexed). process_at s.state c.args.pid) c.self.view_is ∙ there in
    let stands = process-stands h c.self.invariant.now c.args.pid p at in
    c.get.ensures
    ∙ sym (bound-in_channels h.cells c.args.pid c.args.v.0)
    ∙ sym (ap (λ (q : Process). bound_to c.args.v.0 q.channels) stands.is)
