use Rattle.std.proofs.Common.{◌≢◌, ◌<◌, ℕ, slice_index_or}
use Rattle.lanestore.specs.declared.kept.Kept.{Kept}
use Rattle.lanestore.proofs.kept.Fillings.find.Given as goal

abbrev pub invariant-loop-index : goal.invariant-loop-index
invariant-loop-index g l = (k : ℕ) (d : Kept g.row.T.Denot) → k < l.index → (slice_index_or l.self.list.items k d).filling.key ≢ l.key
