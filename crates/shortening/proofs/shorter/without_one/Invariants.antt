use Rattle.std.proofs.Common.{ℕ, ◌<◌}
use Rattle.shortening.specs.Parts.{without}
use Rattle.shortening.specs.Shortest.{IsSameTrial}
use Rattle.shortening.proofs.shorter.without_one.Given as goal

-- no entry before this one can go
abbrev pub invariant-loop-at : goal.invariant-loop-at
invariant-loop-at g l = record {
  stays : (k : ℕ) → k < l.at → g.T.Trial.fails l.fn.trial (without k 1 l.schedule);
  same : IsSameTrial (g.T.Trial.passes l.fn.trial) (g.T.Trial.fails l.fn.trial) (g.T.Trial.tries l.fn.trial) (g.T.Trial.passes l.trial) (g.T.Trial.fails l.trial) (g.T.Trial.tries l.trial);
}
