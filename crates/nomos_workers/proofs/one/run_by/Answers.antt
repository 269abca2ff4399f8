use Rattle.nomos_workers.proofs.one.run_by.Goals as goal

pub watch-requires-clause-watched : goal.watch-requires-clause-watched
watch-requires-clause-watched g c = c.of-watched.ensures.watched c.args.accepted.now
