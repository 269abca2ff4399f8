use Rattle.std.proofs.Common.{◌<◌, nat_lt, length, arith, sym, ap, ◌∙◌}
use Rattle.std.proofs.lemmas.List.{get_or_default}
use Rattle.std.specs.List.{prefix_len}
use Rattle.nomos_changes.proofs.PairLemmas.{bind-set, bind-insert}
use Rattle.nomos_changes.proofs.pairs.bind.Goals as goal
use Rattle.nomos_changes.proofs.pairs.bind.Goals.{else-at-len-via-then-at-len+else-index-v, else-at-len-via-else-at-len}

pub returns-then-index-v-clause-items : goal.returns-then-index-v-clause-items
returns-then-index-v-clause-items g c =
    let b = c.args.pairs.now.items in
    let n = c.count_below-at.result in
    let within : n < length b = omega (arith, ap length c.as_slice.ensures.value) in
    bind-set c.args.v c.args.x b n c.index_mut.result.now c.index.result.now
    (c.count_below-at.ensures.count ∙ ap (prefix_len (λ e. nat_lt e.0.0 c.args.v.0)) c.as_slice.ensures.value) within
    c.index_mut.ensures.value c.index.ensures c.if-index-v.true

pub returns-else-at-len-clause-items : goal.returns-else-at-len-clause-items
returns-else-at-len-clause-items g c =
    let b = c.args.pairs.now.items in
    let n = c.count_below-at.result in
    rw c.put_at.ensures.items
    (bind-insert c.args.v c.args.x b n
    (c.count_below-at.ensures.count ∙ ap (prefix_len (λ e. nat_lt e.0.0 c.args.v.0)) c.as_slice.ensures.value)
    (λ e within read.
    elim c.else-at-len.branch [
      | else-at-len-via-then-at-len+else-index-v w ↦
          (λ same. w.if-index-v.false
          (ap (λ p. p.0.0) (w.index.ensures ∙ get_or_default b n w.index.result.now e within ∙ sym read) ∙ same))
      | else-at-len-via-else-at-len w ↦ absurd (omega (arith, ap length c.as_slice.ensures.value))
    ]))
