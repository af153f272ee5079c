-- What the words tell of the home places of a shard, and how the steps change it.
use Rattle.std.specs.Prelude.{◌≡◌, ◌≢◌, ◌==◌, ◌&&◌, ◌||◌, ℕ, ◌<◌, ◌≤◌, Bool, true, false, List, if◌then◌else◌}
use Rattle.keybits.specs.declared.shape.Shape.{Shape}
use Rattle.keybits.specs.Places.{shard_of}
use Rattle.keybits.specs.Shapes.{is_place}
use Rattle.keybits.specs.Links.{link_to, Leads}
use Rattle.keybits.specs.Counts.{times}
use Rattle.keybits.specs.Homes.{AreHome}

-- the home places are a function of the words
abbrev pub FunctionLaw : Type 0
FunctionLaw = (z : Shape) (shard : ℕ) (links stacks : ℕ → ℕ) (home other : ℕ → Bool)
    → AreHome z shard links stacks home → AreHome z shard links stacks other → (place : ℕ) → home place ≡ other place

-- where each stack word is 0 no place is home
abbrev pub EmptyLaw : Type 0
EmptyLaw = (z : Shape) (shard : ℕ) (links stacks : ℕ → ℕ)
    → ((lane : ℕ) → lane < z.lanes → lane ≢ shard → stacks lane ≡ 0) → AreHome z shard links stacks (λ place. false)

-- no stack word and no link word of a home place was changed: the home places are the same. So they are after a LINK of another place,
-- a PUSH that fails and a FOLLOW
abbrev pub UnchangedLaw : Type 0
UnchangedLaw = (z : Shape) (shard : ℕ) (links stacks links_after stacks_after : ℕ → ℕ) (home : ℕ → Bool)
    → ((place : ℕ) → home place ≡ true → links_after place ≡ links place)
    → ((lane : ℕ) → lane < z.lanes → lane ≢ shard → stacks_after lane ≡ stacks lane)
    → AreHome z shard links stacks home → AreHome z shard links_after stacks_after home

-- the home places with one more
abbrev pub with_place : ℕ → (ℕ → Bool) → ℕ → Bool
with_place place home other = (other == place) || home other

-- a PUSH of a place that isn't home, and whose link word is the stack word that was found: the place is home, and the rest as before
abbrev pub PushLaw : Type 0
PushLaw = (z : Shape) (shard lane place : ℕ) (links stacks stacks_after : ℕ → ℕ) (home : ℕ → Bool)
    → lane < z.lanes → lane ≢ shard → is_place z place ≡ true → shard_of place ≡ shard → home place ≡ false
    → links place ≡ stacks lane → stacks_after lane ≡ link_to place
    → ((other : ℕ) → other < z.lanes → other ≢ lane → stacks_after other ≡ stacks other)
    → AreHome z shard links stacks home → AreHome z shard links stacks_after (with_place place home)

-- the home places without those of a list
abbrev pub without_places : List ℕ → (ℕ → Bool) → ℕ → Bool
without_places taken home place = home place && (times place taken == 0)

-- a TAKE of the stack of a lane: the places that the links lead through from the word that was found, which were home, each once, are home no more
abbrev pub TakeLaw : Type 0
TakeLaw = (z : Shape) (shard lane : ℕ) (links stacks stacks_after : ℕ → ℕ) (home : ℕ → Bool)
    → lane < z.lanes → lane ≢ shard → stacks_after lane ≡ 0
    → ((other : ℕ) → other < z.lanes → other ≢ lane → stacks_after other ≡ stacks other)
    → AreHome z shard links stacks home
    → (taken : List ℕ) × Leads links shard (stacks lane) taken
    × ((place : ℕ) → times place taken ≤ (if home place then 1 else 0))
    × AreHome z shard links stacks_after (without_places taken home)
