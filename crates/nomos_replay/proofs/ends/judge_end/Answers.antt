use Rattle.nomos_replay.proofs.ends.judge_end.Goals as goal

pub may_end-requires-clause-given : goal.may_end-requires-clause-given
may_end-requires-clause-given g c = rw c.end-ended.ensures.world c.end-ended.ensures.end
