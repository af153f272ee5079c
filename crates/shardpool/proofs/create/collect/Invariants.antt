use Rattle.std.proofs.Common.{ℕ, ◌<◌}
use Rattle.poolsteps.specs.Grids.{SameSeat}
use Rattle.shardpool.proofs.parts.Collecting.{Tried}
use Rattle.shardpool.proofs.create.collect.Given as goal

-- each stack of a lane below the number was found empty
abbrev pub invariant-loop-from : goal.invariant-loop-from
invariant-loop-from g l = record {
  hand : SameSeat l.fn.hand l.hand;
  tried : (opened : ℕ) → 0 < opened → Tried l.grid.shape opened l.from l.fn.hand.me l.hand.me;
}
