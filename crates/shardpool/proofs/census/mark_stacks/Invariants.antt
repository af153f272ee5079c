-- The places on the stacks of the lanes so far are marked.
use Rattle.std.proofs.Common.{ℕ, List}
use Rattle.core.specs.Mem.Slots.{slots_items}
use Rattle.shardpool.specs.Marks.{Blanks, AreThreads, stacked}
use Rattle.shardpool.proofs.census.mark_stacks.Given as goal

abbrev pub invariant-loop-lane : goal.invariant-loop-lane
invariant-loop-lane l = (threads : ℕ → List ℕ) → AreThreads l.shape (slots_items l.initial.words) l.shard threads → Blanks l.shape (stacked l.shard threads l.lane) l.initial.words l.words
