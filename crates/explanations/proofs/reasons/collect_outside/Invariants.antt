use Rattle.std.proofs.Common.{◌≡◌, ◌<◌, ℕ, true, Some, Contains, take, slice_get}
use Rattle.keybits.specs.Places.{shard_of}
use Rattle.keybits.specs.Shapes.{is_place}
use Rattle.explanations.proofs.reasons.collect_outside.Given as goal

-- each of the places so far is of the shape and of the lane's shard, and stands nowhere before
abbrev pub invariant-loop-index : goal.invariant-loop-index
invariant-loop-index l = (index place : ℕ) → index < l.index → slice_get l.places index ≡ Some place
    → (is_place l.shape place ≡ true) × (shard_of place ≡ l.lane) × (Contains (take index l.places) place → ⊥)
