use Rattle.std.proofs.Common.{◌-◌, ◌^◌}
use Rattle.nomos_state_tests.proofs.runner.FormRunner.owned_names.Given as goal

abbrev pub decreases-loop-name : goal.decreases-loop-name
decreases-loop-name g l = 2 ^ 32 - l.after
