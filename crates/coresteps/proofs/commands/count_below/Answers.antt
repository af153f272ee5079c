-- The partition point is the number of those below the limit.
use Rattle.std.proofs.Common.{ltb, rules}
use Rattle.std.proofs.lemmas.List.Sorted.{IsPartitionPoint-from_clause}
use Rattle.coresteps.proofs.WriteLemmas.{row_partitioned, point_is}
use Rattle.coresteps.proofs.commands.count_below.Goals as goal

pub returns-clause-count : goal.returns-clause-count
returns-clause-count c = λ low high is lows highs.
    let row = c.args.row.now in
    let limit = c.args.limit in
    let count = c.partition_point.result in
    point_is limit low high lows highs count row is c.partition_point.ensures.bound
    (IsPartitionPoint-from_clause (λ k. ltb k limit) row count c.partition_point.ensures.partitioned
    (row_partitioned limit low high lows highs row is) (λ a r q k. search rules))
