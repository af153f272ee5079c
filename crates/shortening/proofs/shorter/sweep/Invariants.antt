use Rattle.std.proofs.Common.{◌-◌, vec_len}
use Rattle.shortening.proofs.TrialLemmas.{IsKept}
use Rattle.shortening.proofs.shorter.sweep.Given as goal

-- what is kept is a part that passes
abbrev pub invariant-loop-at : goal.invariant-loop-at
invariant-loop-at g l =
    IsKept (g.T.Trial.passes l.fn.trial) (g.T.Trial.fails l.fn.trial) (g.T.Trial.tries l.fn.trial) (g.T.Trial.passes l.trial) (g.T.Trial.fails l.trial) (g.T.Trial.tries l.trial) l.fn.schedule.items l.kept.items

abbrev pub decreases-loop-at : goal.decreases-loop-at
decreases-loop-at g l = vec_len l.kept - l.at
