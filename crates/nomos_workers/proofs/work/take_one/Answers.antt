use Rattle.std.proofs.Common.{List, ℕ, subst, sym}
use mathlib.Core.List.{IsPrefix}
use Rattle.nomos_floor.specs.FloorPass.{seen_by, taken_history}
use Rattle.nomos_floor.proofs.HistoryLaws.{prefix_trans}
use Rattle.nomos_workers.proofs.work.take_one.Goals as goal

pub returns-clause-seen : goal.returns-clause-seen
returns-clause-seen g c =
    let seen = seen_by c.args.pass in
    let taken = taken_history c.take_turn-turn.result in
    let last = g.W.Shared.history c.carry_on-turn.result.turn.work in
    let begins : IsPrefix seen taken =
    subst (λ (l : List (ℕ × _)). IsPrefix seen l) (sym c.take_turn-turn.ensures.taken) c.take_turn-turn.ensures.seen in
    subst (λ (l : List (ℕ × _)). IsPrefix seen l) (sym c.give_back-pass.ensures.seen)
    (prefix_trans seen taken last begins c.carry_on-turn.ensures.seen)
