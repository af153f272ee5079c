use Rattle.std.proofs.Common.{◌≡◌, ℕ, ◌+◌, ◌<◌}
use Rattle.poolsteps.specs.Grids.{SameSeat}
use Rattle.shardpool.proofs.parts.Collecting.{Tried}
use Rattle.shardpool.proofs.halt.collect_within.Given as goal

-- each stack of a lane below the number was found empty, and each TAKE took one from the steps that are left
abbrev pub invariant-loop-from : goal.invariant-loop-from
invariant-loop-from g l = record {
  hand : SameSeat l.fn.hand l.hand;
  tried : (opened : ℕ) → 0 < opened → Tried l.grid.shape opened l.from l.fn.hand.me l.hand.me;
  sum : l.hand.me.0.steps + l.left ≡ l.fn.hand.me.0.steps + l.fn.limit;
}
