use Rattle.std.proofs.Common.{length, subst, sym}
use Rattle.nomos_types.specs.Acceptance.{Acceptance}
use Rattle.nomos_legal.specs.Ledger.{LedgerState}
use Rattle.nomos_legal.specs.Ending.{IsAllowed}
use Rattle.nomos_legal.specs.StandsFor.{StandsFor}
use Rattle.nomos_legal.specs.declared.journal.End.{End}
use Rattle.nomos_walk.proofs.walk.leave.Goals as goal

pub returns-in-Committed-clause-stands : goal.returns-in-Committed-clause-stands
returns-in-Committed-clause-stands g c = λ a limit accepted stands allowed.
    c.commit.ensures.stands a limit accepted stands
    (subst (λ (e : End). IsAllowed a c.args.world.state (length c.args.world.firings) limit e) c.in-Committed.is
    allowed)

pub returns-in_default-clause-stands : goal.returns-in_default-clause-stands
returns-in_default-clause-stands g c = λ a limit accepted stands allowed.
    subst (λ (l : LedgerState). StandsFor a l) (sym c.undo.ensures) stands.origin
