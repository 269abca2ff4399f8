-- The first number that is not smaller.
use Rattle.std.proofs.Common.{ltb, rules, sym}
use Rattle.std.proofs.lemmas.List.Sorted.{IsPartitionPoint-from_clause, IsPartitionedBy-ltb}
use Rattle.std.proofs.lemmas.Map.Keys.{non_decreasing_from_sorted}
use Rattle.nomos_carrying.proofs.DenseLemmas.{point-place}
use Rattle.nomos_carrying.proofs.dense.place_in.Goals as goal

pub returns : goal.returns
returns c =
    let numbers = c.args.numbers.now in
    let n = c.args.number in
    let found = c.partition_point-smaller in
    let parted = IsPartitionedBy-ltb (λ y. y) numbers n (non_decreasing_from_sorted numbers c.requires.sorted) in
    let point = IsPartitionPoint-from_clause (λ y. ltb y n) _ _ found.ensures.partitioned parted
    (λ a r q k. search rules) in
    sym (point-place n numbers found.result found.ensures.bound point)
