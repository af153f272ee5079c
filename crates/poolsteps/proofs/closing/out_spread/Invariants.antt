-- The shares from the number on are in one hand.
use Rattle.poolsteps.specs.Layout.{spots_at}
use Rattle.poolsteps.proofs.Joining.{HasJoined}
use Rattle.poolsteps.proofs.closing.out_spread.Given as goal

abbrev pub invariant-loop-number : goal.invariant-loop-number
invariant-loop-number g l = HasJoined (spots_at l.fn.directory.ptr l.shape) l.shape l.place l.number l.fn.slots l.slots l.rest

abbrev pub decreases-loop-number : goal.decreases-loop-number
decreases-loop-number g l = l.number
