use Rattle.std.proofs.Common.{◌≡◌, map, take}
use Rattle.nomos_pool.specs.Dealing.{account_name, account_names, thread_of}
use Rattle.nomos_pool.proofs.dealing.deal_threads.Given as goal

-- the first batches have their threads
abbrev pub invariant-loop-batch : goal.invariant-loop-batch
invariant-loop-batch l = l.threads.items
    ≡ map (λ b. thread_of l.count (account_names l.batches) (account_name b)) (take l.batch-index l.batches)
