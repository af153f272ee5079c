-- The share stands where the loan says.
use Rattle.std.proofs.Common.{ap}
use Rattle.poolsteps.specs.Spot.{Spot}
use Rattle.shardpool.proofs.lending.Loan.read.Goals as goal

pub read-requires : goal.read-requires
read-requires g c =
    let is = c.self.invariant in (is.0, is.1, (ap (λ (s : Spot). s.directory) is.2, ap (λ (s : Spot). s.index) is.2))
