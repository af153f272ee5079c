-- So many counts stand there, and there is room for all.
use Rattle.std.proofs.Common.{◌≡◌, ◌≤◌, replicate}
use Rattle.std.specs.Vec.{vec_capacity}
use Rattle.poolhandle.proofs.counting_lane.no_counts.Given as goal

abbrev pub invariant-loop : goal.invariant-loop
invariant-loop l = (l.counts.items ≡ replicate l.counter (record { generation = 0; count = 0 })) × (l.places ≤ vec_capacity l.counts)
