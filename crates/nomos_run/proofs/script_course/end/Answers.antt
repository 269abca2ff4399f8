use Rattle.nomos_run.proofs.script_course.end.Goals as goal

pub finish-requires-clause-allowed : goal.finish-requires-clause-allowed
finish-requires-clause-allowed g c = c.in-Ok.ensures.allowed c.args.under.limit c.requires.allowed
