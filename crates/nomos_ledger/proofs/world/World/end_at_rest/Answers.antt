use Rattle.nomos_ledger.proofs.world.World.end_at_rest.Goals as goal

pub has_transaction-requires-clause-over : goal.has_transaction-requires-clause-over
has_transaction-requires-clause-over g c = rw c.machine.ensures.state c.before_transactions-before.ensures
