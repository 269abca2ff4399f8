use Rattle.std.proofs.Common.{IfSome}
use mathlib.Core.List.{IsPrefix}
use Rattle.nomos_floor.specs.FloorPass.{IsPassOf, KeepsNumbers, opened_work, seen_by}
use Rattle.nomos_workers.specs.Looks.{IsKnown}
use Rattle.nomos_workers.proofs.work.work.Given as goal

-- the pass is kept and has seen no less, and what was evaluated is right
abbrev pub invariant-turns : goal.invariant-turns
invariant-turns g l = record {
  of_floor : IsPassOf l.floor l.pass;
  kept : KeepsNumbers l.fn.pass l.pass;
  seen : IsPrefix (seen_by l.fn.pass) (seen_by l.pass);
  known : IfSome l.seeks.known (IsKnown (g.W.Trade.program (g.W.Shared.start (opened_work l.floor))));
}
