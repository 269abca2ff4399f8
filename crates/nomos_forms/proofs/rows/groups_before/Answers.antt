use Rattle.std.proofs.Common.{◌∙◌, ◌≤◌, get_or, length, ap, sym, subst, arith, rules, leb, leb-true, leb-false}
use Rattle.std.specs.List.Sorted.{IsNonDecreasingBy}
use Rattle.std.proofs.lemmas.List.Sorted.{IsPartitionPoint-from_clause, IsPartitionedBy-leb}
use Rattle.nomos_forms.proofs.PlaceLemmas.{ends-rise, length-ends, end-at, start-low}
use Rattle.nomos_forms.proofs.rows.groups_before.Goals as goal

pub returns : goal.returns
returns c = λ groups same.
    let ends = c.args.ends.now in
    let place = c.args.place in
    let k = c.partition_point.result in
    let rise = subst (IsNonDecreasingBy (λ x. x)) (sym same) (ends-rise 0 groups) in
    let point = IsPartitionPoint-from_clause (λ end. leb end place) ends k c.partition_point.ensures.partitioned
    (IsPartitionedBy-leb (λ x. x) ends place rise) (λ a r q called. search rules) in
    let long = ap length same ∙ length-ends 0 groups in
    let most : k ≤ length groups = omega (arith, c.partition_point.ensures.bound, long) in
    let start = start-low 0 groups k place (omega arith)
    (λ i less. leb-true _ _ (ap (λ xs. leb (get_or xs i 0) place) (sym same) ∙ point.0 i 0 (omega arith) less)) most in
    record {
      within = most;
      start = omega (arith, start);
      end = λ group below.
          let end = ap (λ xs. get_or xs k 0) same ∙ end-at 0 groups k group below in
          let over = leb-false _ _ (point.1 k 0 (omega arith) (omega (arith, below, long))) in
          omega (arith, end, over);
    }
