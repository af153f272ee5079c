-- A lane that lends nothing has no reference, as its rows have none.
use Rattle.std.proofs.Common.{arith}
use Rattle.shardpool.proofs.calls.Loans.{lending-ends}
use Rattle.shardpool.proofs.lending.LendingLane.into_lane.Goals as goal

pub invariant_of-result : goal.invariant_of-result
invariant_of-result g c = let none = c.if-self-gt0.false in (c.self.invariant.0, lending-ends c.self.invariant.1 (omega (arith, none)))
