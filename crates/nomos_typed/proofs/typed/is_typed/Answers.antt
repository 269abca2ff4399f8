use Rattle.nomos_typed.proofs.LeadingLemmas.{not-true}
use Rattle.nomos_typed.proofs.PlacingLemmas.{typed-placed}
use Rattle.nomos_typed.proofs.typed.is_typed.Goals as goal

pub returns-then-not-branch : goal.returns-then-not-branch
returns-then-not-branch c = (
  λ yes. absurd cc,
  λ typed. absurd (not-true _ c.if-not-branch.true c.in_ok-are_processes_placed.ensures
      (typed-placed c.args.accepted.now c.args.state.now typed)),
)
