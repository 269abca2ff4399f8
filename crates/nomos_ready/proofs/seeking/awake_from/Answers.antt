use Rattle.nomos_ready.proofs.AwakeLemmas.{more-woken, noted-back}
use Rattle.nomos_ready.proofs.seeking.awake_from.Goals as goal

pub processes-preserved : goal.processes-preserved
processes-preserved g c = record {
  woken =
      more-woken c.processes.awake c.wake.new.self c.args.first c.processes.pid c.processes.invariant.woken
      c.wake.ensures.woken c.wake.ensures.tells;
  followed = λ name is. c.processes.invariant.followed name (c.wake.ensures.tells.followed name is);
  noted = λ name q is.
      c.processes.invariant.noted name q
      (noted-back c.processes.awake c.wake.new.self c.wake.ensures.tells name q is);
}
