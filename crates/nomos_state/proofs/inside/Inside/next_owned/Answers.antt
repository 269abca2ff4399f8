use Rattle.std.proofs.Common.{subst}
use Rattle.nomos_deeds.specs.Lowest.{FindsNext}
use Rattle.nomos_deeds.specs.Readers.{IsLinearName}
use Rattle.nomos_state.specs.Indexed.{Indexed}
use Rattle.nomos_state.proofs.inside.Inside.next_owned.Goals as goal

pub returns : goal.returns
returns c =
    subst
    (λ (i : Indexed). FindsNext (IsLinearName c.args.accepted.now.program i.state.types) c.args.after
    c.next_owned.result)
    c.self.view_is c.next_owned.ensures
