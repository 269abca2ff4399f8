use Rattle.std.proofs.Common.{subst}
use Rattle.nomos_slots.specs.Cells.{Cell}
use Rattle.nomos_slots.specs.Marking.{Marking}
use Rattle.nomos_slots.specs.Users.{IsLowestUser}
use Rattle.nomos_slots.proofs.channels.Channels.lowest_user.Goals as goal

pub returns : goal.returns
returns c =
    subst (λ (m : Marking Cell). IsLowestUser m.now c.args.name c.lowest_user_in.result) c.self.view_is
    c.lowest_user_in.ensures
