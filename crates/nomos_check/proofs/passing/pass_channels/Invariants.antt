use Rattle.std.proofs.Common.{drop}
use Rattle.nomos_types.specs.Arguments.{PassesChannels}
use Rattle.nomos_types.specs.Equality.{no_amounts}
use Rattle.nomos_types.specs.Judgement.{Judgement, IsJudgement}
use Rattle.nomos_check.specs.declared.asked.Asked.{Asked}
use Rattle.nomos_check.specs.declared.standing.Standing.{Standing}
use Rattle.nomos_check.specs.mirror.Passing.{ChannelsPassed}
use Rattle.nomos_check.specs.mirror.StandingData.{shape_of, IsReady, KeepsCompared}
use Rattle.nomos_check.proofs.passing.pass_channels.Given as goal

-- where the channels from here on pass, all of them pass, and the other way round
abbrev pub invariant-loop-i : goal.invariant-loop-i
invariant-loop-i l = record {
  ready : IsReady l.program l.asked;
  kept : KeepsCompared l.fn.asked l.asked;
  judgement : IsJudgement l.program (shape_of l.now);
  whole : (next : Standing) (new : Asked)
      → ChannelsPassed l.program l.now next (drop l.i l.channels) (drop l.i l.pars) l.asked new
      → ChannelsPassed l.program l.fn.now next l.channels l.pars l.fn.asked new;
  rest : (left : Judgement) → PassesChannels l.program no_amounts (shape_of l.fn.now) l.channels l.pars left
      → PassesChannels l.program no_amounts (shape_of l.now) (drop l.i l.channels) (drop l.i l.pars) left;
}
