use Rattle.std.proofs.Common.{◌≡◌, ℕ, ◌<◌, slice_index}
use Rattle.seqpool.proofs.row.Row.is_held.Given as goal

abbrev pub invariant-loop-tally : goal.invariant-loop-tally
invariant-loop-tally l = (lane : ℕ) → lane < l.tally-index → slice_index l.tally-items lane ≡ 0
