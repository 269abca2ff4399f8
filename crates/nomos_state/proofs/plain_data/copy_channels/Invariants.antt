use Rattle.std.proofs.Common.{◌-◌}
use Rattle.nomos_state.specs.Copying.{AreChannelsBelow}
use Rattle.nomos_state.proofs.plain_data.copy_channels.Given as goal

-- the channels so far are those of the variables below
abbrev pub invariant-loop-variable : goal.invariant-loop-variable
invariant-loop-variable l = AreChannelsBelow l.contents.channels.now l.pid l.variable l.made.items

abbrev pub decreases-loop-variable : goal.decreases-loop-variable
decreases-loop-variable l = l.within.high - l.variable
