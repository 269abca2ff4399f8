use Rattle.std.proofs.Common.{◌<◌, ℕ, List, All, sym, subst}
use Rattle.nomos_slots.specs.Numbers.{IsAscending, numbers}
use Rattle.nomos_slots.specs.declared.numbered.Slot.{Slot}
use Rattle.nomos_slots.proofs.GapLaws.{all-closed, ascending-close}
use Rattle.nomos_state.specs.declared.tally.Tally.{Tally}
use Rattle.nomos_state.proofs.tallies.Tallies.close_gaps.Goals as goal

pub returns-then-is_sparse-clause-order : goal.returns-then-is_sparse-clause-order
returns-then-is_sparse-clause-order c order =
    subst (λ (slots : List (Slot Tally)). IsAscending slots) (sym c.close_gaps.ensures.now)
    (ascending-close c.late_from-from.result c.args.self.now.names.now order)

pub returns-then-is_sparse-clause-above : goal.returns-then-is_sparse-clause-above
returns-then-is_sparse-clause-above c number all =
    subst (λ (slots : List (Slot Tally)). All (λ n. n < number) (numbers slots)) (sym c.close_gaps.ensures.now)
    (all-closed (λ (n : ℕ). n < number) c.late_from-from.result c.args.self.now.names.now all)
