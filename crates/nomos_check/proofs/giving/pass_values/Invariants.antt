use Rattle.std.proofs.Common.{drop}
use Rattle.nomos_ir.specs.Bindings.{IsAscending}
use Rattle.nomos_types.specs.Arguments.{PassesValues}
use Rattle.nomos_types.specs.Equality.{no_amounts}
use Rattle.nomos_types.specs.Judgement.{Judgement}
use Rattle.nomos_check.specs.declared.asked.Asked.{Asked}
use Rattle.nomos_check.specs.declared.standing.Standing.{Standing}
use Rattle.nomos_check.specs.mirror.Passing.{ValuesPassed}
use Rattle.nomos_check.specs.mirror.StandingData.{shape_of, IsReady, KeepsCompared}
use Rattle.nomos_check.proofs.giving.pass_values.Given as goal

-- where the values from here on pass, all of them pass, and the other way round
abbrev pub invariant-loop-i : goal.invariant-loop-i
invariant-loop-i l = record {
  ready : IsReady l.program l.asked;
  kept : KeepsCompared l.fn.asked l.asked;
  ascends : IsAscending (shape_of l.now).lists;
  whole : (next : Standing) (new : Asked)
      → ValuesPassed l.program l.now next (drop l.i l.args) (drop l.i l.pars) l.asked new
      → ValuesPassed l.program l.fn.now next l.args l.pars l.fn.asked new;
  rest : (left : Judgement) → PassesValues l.program no_amounts (shape_of l.fn.now) l.args l.pars left
      → PassesValues l.program no_amounts (shape_of l.now) (drop l.i l.args) (drop l.i l.pars) left;
}
