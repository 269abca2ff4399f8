use Rattle.nomos_accept.proofs.accepting.refuted.Goals as goal

pub returns-clause-none_meet : goal.returns-clause-none_meet
returns-clause-none_meet c = c.refutes.ensures.none_meet c.if-not-refutes.false
