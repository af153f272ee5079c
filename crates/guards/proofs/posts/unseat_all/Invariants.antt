-- The lanes of the first posts are back, and the answers are theirs.
use Rattle.std.proofs.Common.{◌≡◌, ◌≤◌, ◌++◌, length, map, Some}
use Rattle.std.specs.Vec.{vec_capacity}
use Rattle.std.specs.Vec.Iter.{into_iter_items, into_iter_len}
use Rattle.guards.specs.Here.{HoldNothing}
use Rattle.guards.specs.Runs.{AreBack}
use Rattle.guards.proofs.posts.unseat_all.Given as goal

abbrev pub invariant-loop-post : goal.invariant-loop-post
invariant-loop-post g l = record {
  pool : l.lanes.pool ≡ g.N.PoolName.pool;
  nothing : HoldNothing l.lanes;
  back : AreBack l.initial.lanes l.lanes (map (λ post. post.seat.lane) l.yielded);
  answers : map Some l.answers.items ≡ map (λ post. post.answer) l.yielded;
  room : length l.fn.posts.items ≤ vec_capacity l.answers;
  all : l.yielded ++ into_iter_items l.post-iterator ≡ l.fn.posts.items;
  rest : into_iter_len l.post-iterator ≡ length (into_iter_items l.post-iterator);
}
