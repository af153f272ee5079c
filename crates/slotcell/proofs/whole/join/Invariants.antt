use Rattle.std.proofs.Common.{◌≡◌, ◌+◌, length}
use Rattle.slotcell.proofs.Merging.{Merges}
use Rattle.slotcell.proofs.whole.join.Given as goal

-- as many shares are left as turns, and with these `all` is whole
abbrev pub invariant-loop : goal.invariant-loop
invariant-loop g l = (length l.shares.items + l.counter ≡ l.count) × Merges l.fn.shares.items l.shares.items l.all
