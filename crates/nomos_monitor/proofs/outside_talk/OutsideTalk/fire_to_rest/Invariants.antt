-- So many firings were made of the talk.
use Rattle.std.proofs.Common.{◌≡◌}
use Rattle.nomos_monitor.proofs.RunningLaws.{HasFired}
use Rattle.nomos_monitor.proofs.outside_talk.OutsideTalk.fire_to_rest.Given as goal

abbrev pub invariant-loop-made : goal.invariant-loop-made
invariant-loop-made g l = record {
  fired : HasFired l.initial.self.a l.made l.initial.self.state l.self.state;
  same_program : l.self.a ≡ l.initial.self.a;
  same_account : l.self.account ≡ l.initial.self.account;
}
