-- Where the words of a lane's own places stand.
use Rattle.std.proofs.Common.{◌≡◌, ℕ, ◌+◌, ◌-◌, ◌<◌, ◌≤◌, true, subst, arith}
use Rattle.keybits.specs.declared.shape.Shape.{Shape}
use Rattle.keybits.specs.Places.{shard_of}
use Rattle.keybits.specs.Shapes.{is_place, index_of, shard_places}
use Rattle.keybits.proofs.ShapeLemmas.{index_of-lt}
use Rattle.poolsteps.specs.Layout.{slot_start, shard_start}

-- a place of the shard stands so far behind the first
pub stands-from : (z : Shape) (place shard : ℕ) → shard_of place ≡ shard → slot_start z place ≡ shard_start z shard + index_of z place
stands-from z place shard own = subst (λ (n : ℕ). slot_start z place ≡ shard_start z n + index_of z place) own (omega arith)

module _ (z : Shape) (place shard start first : ℕ) (own : shard_of place ≡ shard) (here : start ≡ slot_start z place) (begins : first ≡ shard_start z shard) where
  pub word-low : first ≤ start
  word-low = let from = stands-from z place shard own in omega (arith, from, here, begins)

  pub word-index : start - first ≡ index_of z place
  word-index = let from = stands-from z place shard own in omega (arith, from, here, begins)

  pub word-high : is_place z place ≡ true → (count : ℕ) → count ≡ shard_places z → start < first + count
  word-high inside count narrow = let from = stands-from z place shard own in let low = index_of-lt z place inside in omega (arith, from, here, begins, low, narrow)
