use Rattle.std.proofs.Common.{subst, sym}
use Rattle.nomos_machine.specs.TypedState.{IsTyped}
use Rattle.nomos_legal.proofs.WorldLaws.{world-typed}
use Rattle.nomos_ledger.proofs.watched.Watched.wake.Goals as goal

pub wake_after-requires : goal.wake_after-requires
wake_after-requires g c =
    subst (IsTyped c.args.accepted.now) (sym c.state.ensures.state)
    (world-typed c.know.ensures.accepted c.requires)
