-- What a client says of a history, in its own words.
use Rattle.std.specs.Prelude.{◌≡◌, ℕ, true, false, List, Some, slice_get}
use Rattle.keybits.specs.declared.shape.Shape.{Shape}
use Rattle.keybits.specs.Keys.{place_of}
use Rattle.seqpool.specs.declared.act.Act.{Act}
use Rattle.seqpool.specs.Pool.{published, is_current, pool_after}
use Rattle.seqpool.specs.Histories.{PublishedAt, ClearedAt}
use Rattle.shardpool.specs.Tokens.{LaneOf}

-- the key is published with this content
abbrev pub IsPublished : List Act → ℕ → List ℕ → Type 0
IsPublished history key content = (position : ℕ) × PublishedAt history position key content

-- the key is cleared
abbrev pub IsCleared : List Act → ℕ → Type 0
IsCleared history key = (position : ℕ) × ClearedAt history position key

-- if the key was published in the history before, it is cleared in the one after
abbrev pub IsGone : List Act → List Act → ℕ → Type 0
IsGone before after key = (content : List ℕ) → IsPublished before key content → IsCleared after key

-- at the end of the history the key stands at its place with this content, and unmarked
abbrev pub IsPresent : Shape → List Act → ℕ → List ℕ → Type 0
IsPresent z history key content = (is_current z (pool_after z history) key ≡ true)
    × ((references : ℕ → ℕ) × ((pool_after z history (place_of key)).phase ≡ published content references false))

-- the history has all that these lanes have seen
pub record HasAll (lanes : List LaneOf) (history : List Act) : Type 0 where
  pub published : (number : ℕ) (lane : LaneOf) (key : ℕ) (content : List ℕ) → slice_get lanes number ≡ Some lane
      → IsPublished lane.book.seen key content → IsPublished history key content
  pub cleared : (number : ℕ) (lane : LaneOf) (key : ℕ) → slice_get lanes number ≡ Some lane → IsCleared lane.book.seen key
      → IsCleared history key
