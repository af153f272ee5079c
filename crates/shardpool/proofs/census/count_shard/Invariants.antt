-- The places before this index are counted.
use Rattle.core.specs.Mem.Slots.{slots_items}
use Rattle.shardpool.proofs.count.Counts.{CountsTo}
use Rattle.shardpool.proofs.census.count_shard.Given as goal

abbrev pub invariant-loop-index : goal.invariant-loop-index
invariant-loop-index l = CountsTo l.shape l.shard l.opened (slots_items l.words) l.index l.initial.census l.census
