use denote.Exit.{yes}
use denote.Param.Send.{arg_send, param_send}
use Rattle.nomos_state.proofs.Sending.{state_sends}
use Rattle.nomos_run_tests.proofs.told_scripts.ran.Goals as goal

pub run_script_by_crew-requires-send-M : goal.run_script_by_crew-requires-send-M
run_script_by_crew-requires-send-M g c κs within = param_send 0 _ (arg_send _ yes _ state_sends)
