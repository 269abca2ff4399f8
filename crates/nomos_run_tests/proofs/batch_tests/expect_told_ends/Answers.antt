use denote.Exit.{yes}
use denote.Param.Send.{arg_send, param_send}
use Rattle.std.proofs.Common.{arith}
use Rattle.nomos_state.proofs.Sending.{state_sends}
use Rattle.nomos_run_tests.proofs.batch_tests.expect_told_ends.Goals as goal

pub expect_goes_on-requires : goal.expect_goes_on-requires
expect_goes_on-requires g c = (c.world_of-world.ensures 0 (omega arith)).stands

pub run_batch-world-requires-send-M : goal.run_batch-world-requires-send-M
run_batch-world-requires-send-M g c κs within = param_send 0 _ (arg_send _ yes _ state_sends)
