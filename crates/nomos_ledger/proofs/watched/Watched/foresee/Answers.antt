use Rattle.std.proofs.Common.{subst, sym}
use Rattle.nomos_machine.specs.TypedState.{IsTyped}
use Rattle.nomos_legal.proofs.WorldLaws.{world-typed}
use Rattle.nomos_ledger.proofs.watched.Watched.foresee.Goals as goal

pub foresee-requires-clause-typed : goal.foresee-requires-clause-typed
foresee-requires-clause-typed g c =
    subst (IsTyped c.args.accepted.now) (sym c.state.ensures.state)
    (world-typed c.know.ensures.accepted c.requires.stands)
