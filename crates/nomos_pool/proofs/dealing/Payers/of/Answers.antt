use Rattle.std.proofs.Common.{◌≡◌, ◌∙◌, Bor, List, ℕ, [], ap, get_or, sym, take}
use Rattle.std.proofs.lemmas.List.{take_more}
use Rattle.nomos_pool.specs.Dealing.{account_name, with_accounts, with_name}
use Rattle.nomos_pool.proofs.DealingLemmas.{puts-name, with-one}
use Rattle.nomos_pool.proofs.dealing.Payers.of.Goals as goal

pub loop-batch-preserved : goal.loop-batch-preserved
loop-batch-preserved c =
    let k = c.loop-batch.batch-index in
    let batches = c.args.batches.now in
    let b = c.batch-item.result in
    let payer : c.payer_of.result.now ≡ account_name (get_or batches k b) =
    c.payer_of.ensures ∙ ap account_name c.batch-item.is in
    let more = take_more batches k b c.loop-batch-test.true in
    puts-name (λ (n : Bor (List ℕ)). n.now) c.loop-batch.names.keys c.insert.new.self.keys c.payer_of.result
    c.in_ok-insert.ensures.keys
    ∙ ((λ i. with_name (c.loop-batch.invariant i) (payer i))
    ∙ sym (ap (with_accounts []) more ∙ with-one [] (take k batches) (get_or batches k b)))
