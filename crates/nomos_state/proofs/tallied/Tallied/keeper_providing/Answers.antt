use Rattle.std.proofs.Common.{◌∙◌, ap}
use Rattle.nomos_machine.specs.Objects.{object_at}
use Rattle.nomos_state.specs.Indexed.{Indexed}
use Rattle.nomos_state.proofs.FindLemmas.{keeper-provides}
use Rattle.nomos_state.proofs.tallied.Tallied.keeper_providing.Goals as goal

pub returns-in-Nobody : goal.returns-in-Nobody
returns-in-Nobody c =
    let objects = c.args.self.now.state.objects in
    let (o, there, did) = c.requires.does in
    let here = ap (λ (i : Indexed). object_at i.state.objects c.args.number) c.self.view_is ∙ there in
    c.standing_for.ensures o here
    ∙ keeper-provides objects c.args.shared c.args.number c.requires.once c.in-Nobody.ensures (o, there, did)
