use Rattle.std.proofs.Common.{◌∙◌, Err, ap, drop, subst, sym}
use Rattle.std.proofs.lemmas.List.{take_rest}
use Rattle.nomos_pool.specs.Pooled.{FirstOther, IsRefused}
use Rattle.nomos_pool.proofs.PooledLaws.{refused-alone, refuses}
use Rattle.nomos_pool.proofs.pooled.pool_items.Goals as goal

pub returns-in-Some-clause-pools : goal.returns-in-Some-clause-pools
returns-in-Some-clause-pools g c =
    let place = c.first_single-place.result in
    let line = c.in-Some.line in
    let found = c.first_single-place.ensures in
    let items = c.as_slice.result.now in
    subst (λ l. IsRefused l line) c.as_slice.ensures
    (refuses place line items found.within found.before found.there
    (subst (λ l. FirstOther l line)
    (take_rest c.as_slice-2.result.now place ∙ ap (drop place) (c.as_slice-2.ensures ∙ sym c.as_slice.ensures))
    c.in-Some.ensures))

pub returns-in-Some-clause-alone : goal.returns-in-Some-clause-alone
returns-in-Some-clause-alone g c line is other comes =
    refused-alone c.args.threads c.in-Some.line c.args.items (returns-in-Some-clause-pools g c) other comes
    ∙ ap Err (cc is)
