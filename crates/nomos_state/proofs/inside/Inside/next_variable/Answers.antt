use Rattle.std.proofs.Common.{◌∙◌, ap}
use Rattle.nomos_ir.specs.Bindings.{bound_to}
use Rattle.nomos_machine.specs.State.{process_at}
use Rattle.nomos_machine.specs.declared.object.Process.{Process}
use Rattle.nomos_state.specs.Indexed.{Indexed, held_now}
use Rattle.nomos_state.proofs.ChannelLemmas.{bound-in_channels}
use Rattle.nomos_state.proofs.LookLemmas.{process-stands}
use Rattle.nomos_state.proofs.inside.Inside.next_variable.Goals as goal

pub returns-clause-none : goal.returns-clause-none
returns-clause-none c p there v over below has =
    let h = held_now c.self.inside.contents in
    let at = ap (λ (s : Indexed). process_at s.state c.args.pid) c.self.view_is ∙ there in
    let stands = process-stands h c.self.invariant.now c.args.pid p at in
    ap (λ (q : Process). bound_to v q.channels) stands.is
    ∙ bound-in_channels h.cells c.args.pid v
    ∙ c.next_in.ensures.none v over below has
