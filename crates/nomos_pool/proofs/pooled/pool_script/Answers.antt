use Rattle.std.proofs.Common.{List, Result, subst, ℕ}
use Rattle.nomos_script.specs.declared.item.ScriptItem.{ScriptItem}
use Rattle.nomos_pool.specs.Pooled.{IsPooled, PoolsTo}
use Rattle.nomos_pool.proofs.PooledLaws.{pooled-script}
use Rattle.nomos_pool.proofs.pooled.pool_script.Goals as goal

pub of_items-requires : goal.of_items-requires
of_items-requires g c =
    let n = c.args.threads in
    let items = c.in-Ok.items in
    let comes = subst (λ (r : Result (List ScriptItem) ℕ). PoolsTo n c.into_items.result r) c.in-Ok.is
    c.in_ok-items.ensures.pools in
    let pooled = subst (λ (l : List ScriptItem). IsPooled n l items) c.into_items.ensures.items comes in
    pooled-script n c.args.script items c.requires.some pooled
    (record { size = c.into_items.ensures.size; written = c.into_items.ensures.written })
