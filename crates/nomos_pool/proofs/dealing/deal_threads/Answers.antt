use Rattle.std.proofs.Common.{◌≡◌, ◌∙◌, ℕ, ◌%◌, [], ◌∷◌, ◌++◌, ap, get_or, map, sym, take}
use Rattle.std.proofs.lemmas.List.{map-append, take_more}
use Rattle.std.specs.List.{position_or_len}
use Rattle.std.specs.Str.{bytes_eq}
use Rattle.nomos_script.specs.declared.item.Batch.{Batch}
use Rattle.nomos_pool.specs.Dealing.{account_name, account_names, thread_of}
use Rattle.nomos_pool.proofs.dealing.deal_threads.Goals as goal

pub loop-batch-preserved : goal.loop-batch-preserved
loop-batch-preserved c =
    let k = c.loop-batch.batch-index in
    let n = c.args.count in
    let batches = c.args.batches.now in
    let b = c.batch-item.result in
    let thread : Batch → ℕ = λ x. thread_of n (account_names batches) (account_name x) in
    let payer : c.payer_of.result.now ≡ account_name (get_or batches k b) =
    c.payer_of.ensures ∙ ap account_name c.batch-item.is in
    let value : c.place_of.result % n ≡ thread (get_or batches k b) = ap (λ (place : ℕ). place % n)
    (c.place_of.ensures ∙ (λ i. position_or_len (λ m. bytes_eq m (payer i)) (c.in_ok-payers.ensures i))) in
    c.in_ok-push.ensures.items
    ∙ ((λ i. c.loop-batch.invariant i ++ value i ∷ [])
    ∙ sym (ap (map thread) (take_more batches k b c.loop-batch-test.true)
    ∙ map-append thread (take k batches) (get_or batches k b ∷ [])))
