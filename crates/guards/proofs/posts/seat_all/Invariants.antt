-- The first jobs are seated, each with the lane of its number, and the other lanes are here.
use Rattle.std.proofs.Common.{◌≡◌, ◌≤◌, ℕ, ◌++◌, length, map, Some}
use Rattle.std.specs.Vec.{vec_capacity}
use Rattle.std.specs.Vec.Iter.{into_iter_items, into_iter_len}
use Rattle.guards.specs.Here.{lane_at, HoldNothing}
use Rattle.guards.specs.Runs.{AreFrom}
use Rattle.guards.proofs.posts.seat_all.Given as goal

abbrev pub invariant-loop-job : goal.invariant-loop-job
invariant-loop-job g l = record {
  number : l.number ≡ length l.yielded;
  pool : l.lanes.pool ≡ g.N.PoolName.pool;
  nothing : HoldNothing l.lanes;
  others : (number : ℕ) → length l.yielded ≤ number → lane_at l.lanes number ≡ lane_at l.initial.lanes number;
  jobs : map (λ post. post.job) l.posts.items ≡ map Some l.yielded;
  lanes : AreFrom l.initial.lanes (map (λ post. post.seat.lane) l.posts.items);
  room : length l.fn.jobs.items ≤ vec_capacity l.posts;
  all : l.yielded ++ into_iter_items l.job-iterator ≡ l.fn.jobs.items;
  rest : into_iter_len l.job-iterator ≡ length (into_iter_items l.job-iterator);
}
