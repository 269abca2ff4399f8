use denote.Exit.{yes}
use denote.Param.Send.{arg_send, param_send}
use Rattle.nomos_state.proofs.Sending.{state_sends}
use Rattle.nomos_run_tests.proofs.batch_tests.run_say.Goals as goal

pub run_batch-requires-send-M : goal.run_batch-requires-send-M
run_batch-requires-send-M g c κs within = param_send 0 _ (arg_send _ yes _ state_sends)
