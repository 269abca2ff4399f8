use Rattle.nomos_state.proofs.FindLemmas.{owner-nobody, owner-one}
use Rattle.nomos_state.proofs.tallied.Tallied.user.Goals as goal

pub returns-in-Nobody : goal.returns-in-Nobody
returns-in-Nobody c = owner-nobody c.args.self.now.state c.args.name c.in-Nobody.ensures

pub returns-in-One : goal.returns-in-One
returns-in-One c =
    let (one, does) = c.in-One.ensures in
    owner-one c.args.self.now.state c.args.name c.in-One.by.object one does
