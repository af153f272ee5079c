use Rattle.shortening.proofs.TrialLemmas.{IsKept}
use Rattle.shortening.proofs.shorter.narrow.Given as goal

-- what is kept is a part that passes
abbrev pub invariant-loop-count : goal.invariant-loop-count
invariant-loop-count g l =
    IsKept (g.T.Trial.passes l.fn.trial) (g.T.Trial.fails l.fn.trial) (g.T.Trial.tries l.fn.trial) (g.T.Trial.passes l.trial) (g.T.Trial.fails l.trial) (g.T.Trial.tries l.trial) l.fn.schedule.items l.kept.items

abbrev pub decreases-loop-count : goal.decreases-loop-count
decreases-loop-count g l = l.count
