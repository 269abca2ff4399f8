use Rattle.std.proofs.Common.{ltb, ltb-true, ltb-false, rules}
use Rattle.std.proofs.lemmas.List.Sorted.{IsPartitionPoint-from_clause, IsPartitionedBy-ltb}
use Rattle.nomos_typed.specs.declared.leading.Onward.{Onward}
use Rattle.nomos_typed.proofs.leading.first_at.Goals as goal

pub returns-clause-point : goal.returns-clause-point
returns-clause-point c =
    let onwards = c.args.onwards.now in
    let end = c.args.end in
    let point = IsPartitionPoint-from_clause (λ (o : Onward). ltb o.end end) onwards c.partition_point.result
    c.partition_point.ensures.partitioned (IsPartitionedBy-ltb (λ (o : Onward). o.end) onwards end c.requires)
    (λ a r q k. search rules) in (
      λ k d from below. ltb-true _ _ (point.0 k d from below),
      λ k d from below. ltb-false _ _ (point.1 k d from below),
    )
