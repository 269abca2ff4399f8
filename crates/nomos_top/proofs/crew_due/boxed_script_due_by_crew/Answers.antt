use denote.Exit.{yes}
use denote.Param.Send.{arg_send, param_send}
use Rattle.nomos_boxed.proofs.Sending.{boxed_sends}
use Rattle.nomos_state.proofs.Sending.{state_sends}
use Rattle.nomos_top.proofs.crew_due.boxed_script_due_by_crew.Goals as goal

pub run_due_by_crew-requires-send-M : goal.run_due_by_crew-requires-send-M
run_due_by_crew-requires-send-M g c κs within = param_send 0 _ (arg_send _ yes _ (boxed_sends _ state_sends))
