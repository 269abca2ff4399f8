use Rattle.std.proofs.Common.{subst, sym}
use Rattle.nomos_machine.specs.TypedState.{IsTyped}
use Rattle.nomos_legal.proofs.WorldLaws.{world-typed}
use Rattle.nomos_ledger.proofs.watched.Watched.any_ready.Goals as goal

pub any_ready-requires-clause-typed : goal.any_ready-requires-clause-typed
any_ready-requires-clause-typed g c =
    subst (IsTyped c.args.accepted.now) (sym c.state.ensures.state)
    (world-typed c.know.ensures.accepted c.requires.stands)
