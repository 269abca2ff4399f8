use Rattle.std.proofs.Common.{◌≡◌, [], map, take}
use Rattle.nomos_pool.specs.Dealing.{with_accounts}
use Rattle.nomos_pool.proofs.dealing.Payers.of.Given as goal

-- the names so far are those of the accounts that send the first batches
abbrev pub invariant-loop-batch : goal.invariant-loop-batch
invariant-loop-batch l = map (λ n. n.now) l.names.keys ≡ with_accounts [] (take l.batch-index l.batches)
