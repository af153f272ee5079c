-- So many rows stand there, and there is room for all.
use Rattle.std.proofs.Common.{◌≡◌, ◌≤◌, None, replicate}
use Rattle.std.specs.Vec.{vec_capacity}
use Rattle.shardpool.proofs.opening.first_rows.Given as goal

abbrev pub invariant-loop : goal.invariant-loop
invariant-loop g l = (l.rows.items ≡ replicate l.counter (record { generation = 0; count = 0; share = None })) × (l.count ≤ vec_capacity l.rows)
