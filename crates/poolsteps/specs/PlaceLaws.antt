-- What stays of a place while others act, and what is told of a key to which a lane refers.
use Rattle.std.specs.Prelude.{◌≡◌, ◌==◌, ℕ, ◌<◌, Bool, false, List, ◌++◌, length}
use Rattle.std.specs.List.{All}
use Rattle.keybits.specs.declared.shape.Shape.{Shape}
use Rattle.keybits.specs.Keys.{place_of}
use Rattle.seqpool.specs.declared.act.Act.{Act}
use Rattle.seqpool.specs.declared.act.Act.TheVariants as acts
use Rattle.seqpool.specs.Pool.{with, published, has, references, pool_after, IsLegal}
use Rattle.seqpool.specs.Histories.{PublishedAt, acts_of}
use Rattle.poolsteps.specs.Shares.{room_of}

-- the act gives the place away: it publishes a key of it, or returns it
abbrev pub gives_away : Act → ℕ → Bool
gives_away (acts.Publish lane key content with_ref) place = place == place_of key
gives_away (acts.Get lane key reply) place = false
gives_away (acts.Release lane key) place = false
gives_away (acts.Clear lane key reply) place = false
gives_away (acts.Reclaim lane key) place = false
gives_away (acts.Home lane at) place = place == at
gives_away (acts.Collect lane places) place = false

-- the act brings the place to its lane: it reclaims it, or collects it
abbrev pub brings : Act → ℕ → Bool
brings (acts.Publish lane key content with_ref) place = false
brings (acts.Get lane key reply) place = false
brings (acts.Release lane key) place = false
brings (acts.Clear lane key reply) place = false
brings (acts.Reclaim lane key) place = place == place_of key
brings (acts.Home lane at) place = false
brings (acts.Collect lane places) place = has places place

-- a place that is with a lane, which doesn't give it away, stays as it is, with its room; and no act of the lane brings it
abbrev pub WithLaw : Type 0
WithLaw = (z : Shape) (history more : List Act) (kept kept_more : List ℕ) (lane place : ℕ)
    → length kept ≡ length history → length kept_more ≡ length more → IsLegal z (history ++ more)
    → (pool_after z history place).phase ≡ with lane → All (λ act. gives_away act place ≡ false) (acts_of lane more)
    → (pool_after z (history ++ more) place ≡ pool_after z history place)
    × (room_of (history ++ more) (kept ++ kept_more) place ≡ room_of history kept place)
    × All (λ act. brings act place ≡ false) (acts_of lane more)

-- a key to which a lane refers was published, and its place has that content
abbrev pub HeldContentLaw : Type 0
HeldContentLaw = (z : Shape) (history : List Act) (lane key : ℕ) → IsLegal z history → 0 < references z (pool_after z history) lane key
    → (content : List ℕ) × (refs : ℕ → ℕ) × (mark : Bool) × ((pool_after z history (place_of key)).phase ≡ published content refs mark)
    × (j : ℕ) × PublishedAt history j key content
