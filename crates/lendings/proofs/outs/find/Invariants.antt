-- No loan in front is under the key.
use Rattle.std.proofs.Common.{◌≢◌, ◌<◌, ℕ, slice_index_or}
use Rattle.lendings.specs.declared.out.Out.{Out}
use Rattle.lendings.proofs.outs.find.Given as goal

abbrev pub invariant-loop-index : goal.invariant-loop-index
invariant-loop-index g l = (k : ℕ) (d : Out g.row.T.Denot) → k < l.index → (slice_index_or l.out k d).key ≢ l.key
