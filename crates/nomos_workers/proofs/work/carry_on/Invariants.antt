use Rattle.std.proofs.Common.{◌≡◌, IfSome}
use mathlib.Core.List.{IsPrefix}
use Rattle.nomos_floor.specs.FloorPass.{IsTurnOf, KeepsNumbers, opened_work, pass_number, pass_of, taken_history}
use Rattle.nomos_workers.specs.Looks.{IsKnown}
use Rattle.nomos_workers.proofs.work.carry_on.Given as goal

-- the turn goes on with nothing that is not counted, and what was evaluated is right
abbrev pub invariant-looks : goal.invariant-looks
invariant-looks g l = record {
  of_floor : IsTurnOf l.floor l.turn;
  start : g.W.Shared.start l.turn.work ≡ g.W.Shared.start (opened_work l.floor);
  fresh : g.W.Shared.history l.turn.work ≡ taken_history l.turn;
  seen : IsPrefix (taken_history l.fn.turn) (taken_history l.turn);
  number : l.number ≡ pass_number (pass_of l.turn);
  kept : KeepsNumbers (pass_of l.fn.turn) (pass_of l.turn);
  known : IfSome l.seeks.known (IsKnown (g.W.Trade.program (g.W.Shared.start (opened_work l.floor))));
}
