use Rattle.std.proofs.Common.{◌≢◌, ◌<◌, ℕ, slice_index_or}
use Rattle.poolhandle.specs.declared.kept.Kept.{Kept}
use Rattle.poolhandle.proofs.fillings.Fillings.find.Given as goal

abbrev pub invariant-loop-index : goal.invariant-loop-index
invariant-loop-index l = (k : ℕ) (d : Kept) → k < l.index → (slice_index_or l.self.list.items k d).filling.key ≢ l.key
