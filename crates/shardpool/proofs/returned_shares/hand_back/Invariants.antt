-- The shares of the first states are back.
use Rattle.std.proofs.Common.{◌≡◌, length}
use Rattle.shardpool.proofs.at_close.ReturnedShares.{HandsTo}
use Rattle.shardpool.proofs.returned_shares.hand_back.Given as goal

abbrev pub invariant-loop-index : goal.invariant-loop-index
invariant-loop-index g l = record {
  end : l.index-end ≡ length l.fn.states.items;
  hands : HandsTo l.shape l.fn.states.items l.index l.states.items l.fn.slots l.slots;
}
