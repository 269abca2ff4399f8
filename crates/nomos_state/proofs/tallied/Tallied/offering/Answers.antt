use Rattle.std.proofs.Common.{◌∙◌, ap}
use Rattle.nomos_machine.specs.Objects.{object_at}
use Rattle.nomos_state.specs.Indexed.{Indexed}
use Rattle.nomos_state.proofs.FindLemmas.{offering-nobody, offering-one}
use Rattle.nomos_state.proofs.tallied.Tallied.offering.Goals as goal

pub returns-in-Nobody : goal.returns-in-Nobody
returns-in-Nobody c = offering-nobody c.args.self.now.state.objects c.args.name c.in-Nobody.ensures

pub returns-in-One : goal.returns-in-One
returns-in-One c =
    let objects = c.args.self.now.state.objects in
    let (one, told) = c.in-One.ensures in
    let (o, there, did) = told in
    let here = ap (λ (i : Indexed). object_at i.state.objects c.in-One.by.object) c.self.view_is ∙ there in
    c.process_offering.ensures o here
    ∙ offering-one objects c.args.name c.in-One.by.object one (o, there, did)
