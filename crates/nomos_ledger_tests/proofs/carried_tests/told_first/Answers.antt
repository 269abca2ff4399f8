use Rattle.nomos_ledger_tests.proofs.carried_tests.told_first.Goals as goal

pub told_from-requires : goal.told_from-requires
told_from-requires c = c.empty.ensures.stands c.args.accepted.now
