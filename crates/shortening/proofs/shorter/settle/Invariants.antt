use Rattle.std.proofs.Common.{vec_len}
use Rattle.shortening.proofs.TrialLemmas.{IsKept}
use Rattle.shortening.proofs.shorter.settle.Given as goal

-- what is kept is a part that passes
abbrev pub invariant-loop-kept : goal.invariant-loop-kept
invariant-loop-kept g l =
    IsKept (g.T.Trial.passes l.fn.trial) (g.T.Trial.fails l.fn.trial) (g.T.Trial.tries l.fn.trial) (g.T.Trial.passes l.trial) (g.T.Trial.fails l.trial) (g.T.Trial.tries l.trial) l.fn.schedule.items l.kept.items

abbrev pub decreases-loop-kept : goal.decreases-loop-kept
decreases-loop-kept g l = vec_len l.kept
