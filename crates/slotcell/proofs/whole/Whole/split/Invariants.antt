use Rattle.std.proofs.Common.{◌≡◌, ◌-◌, ◌^◌}
use Rattle.slotcell.specs.Share.{shares_below}
use Rattle.slotcell.proofs.whole.Whole.split.Given as goal

-- the shares so far are of one cell, and the portion has what the others are to have
abbrev pub invariant-loop : goal.invariant-loop
invariant-loop g l = (l.portion ≡ record l.initial.portion { parts = 2 ^ 63 - l.counter; number = l.counter }) × (l.shares.items ≡ shares_below l.initial.portion.cell l.fn.n l.fn.self l.counter)
