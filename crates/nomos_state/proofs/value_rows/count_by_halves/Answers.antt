use Rattle.std.proofs.Common.{rules}
use Rattle.std.proofs.lemmas.List.Sorted.{IsPartitionPoint-from_clause, IsPartitionedBy-ltb}
use Rattle.nomos_state.proofs.RowLemmas.{ascending-rises, has_lower, number_of, point-count}
use Rattle.nomos_state.proofs.value_rows.count_by_halves.Goals as goal

pub returns-clause-count : goal.returns-clause-count
returns-clause-count g c =
    let row = c.args.row.now in
    let n = c.partition_point.result in
    let parted = IsPartitionedBy-ltb number_of row c.args.v.0 (ascending-rises row c.requires) in
    point-count (has_lower c.args.v.0) row n c.partition_point.ensures.bound
    (IsPartitionPoint-from_clause (has_lower c.args.v.0) row n c.partition_point.ensures.partitioned parted
    (λ a r q k. search rules))
