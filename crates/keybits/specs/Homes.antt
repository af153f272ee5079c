-- The home places of a shard: those that other lanes returned to it, as its stack words and the link words tell them.
use Rattle.std.specs.Prelude.{◌≡◌, ◌≢◌, ◌==◌, ℕ, ◌<◌, Bool, true, List, if◌then◌else◌}
use Rattle.keybits.specs.declared.shape.Shape.{Shape}
use Rattle.keybits.specs.Places.{shard_of}
use Rattle.keybits.specs.Shapes.{is_place}
use Rattle.keybits.specs.Links.{Leads}
use Rattle.keybits.specs.Counts.{sum_below, times}

-- how often a place stands on the stacks of a shard, where each other lane's stack stands for a list
abbrev pub times_stacked : ℕ → ℕ → (ℕ → List ℕ) → ℕ → ℕ
times_stacked lanes shard threads place = sum_below lanes (λ lane. if lane == shard then 0 else times place (threads lane))

-- the home places of a shard, of the lists that its stacks stand for
pub record AreHomeBy (threads : ℕ → List ℕ) (z : Shape) (shard : ℕ) (links stacks : ℕ → ℕ) (home : ℕ → Bool) : Type 0 where
  -- the link words lead from each stack word through its places to the end
  pub leads : (lane : ℕ) → lane < z.lanes → lane ≢ shard → Leads links shard (stacks lane) (threads lane)
  -- the places on the stacks are the home places, each once
  pub each_once : (place : ℕ) → times_stacked z.lanes shard threads place ≡ (if home place then 1 else 0)
  -- they are places of the shard
  pub inside : (place : ℕ) → home place ≡ true → (is_place z place ≡ true) × (shard_of place ≡ shard)

-- the home places of a shard, as the link words and its stack word for each lane tell them;
-- words that don't lead to an end, or that lead to a place twice, tell nothing
abbrev pub AreHome : Shape → ℕ → (ℕ → ℕ) → (ℕ → ℕ) → (ℕ → Bool) → Type 0
AreHome z shard links stacks home = (threads : ℕ → List ℕ) × AreHomeBy threads z shard links stacks home
