-- What a lane's book and the pool tell of each other: which places the lane has, and which references.
use Rattle.std.specs.Prelude.{◌≡◌, ◌==◌, ◌&&◌, ◌+◌, ◌<◌, ℕ, Bool, true, false, not, nat_lt, List, [], ◌∷◌, ◌++◌, length, Some, None}
use Rattle.keybits.specs.declared.shape.Shape.{Shape}
use Rattle.keybits.specs.Places.{shard_of, page_of}
use Rattle.keybits.specs.Shapes.{is_place}
use Rattle.keybits.specs.Keys.{place_of, is_key}
use Rattle.keybits.specs.Counts.{times}
use Rattle.seqpool.specs.declared.act.Act.{Act}
use Rattle.seqpool.specs.declared.act.Act.TheVariants as acts
use Rattle.seqpool.specs.Pool.{Pool, Phase, with, published, home, retired, is_current, references, pool_after}
use Rattle.steplaws.specs.Facts.{Lanes, moment, Rule}
use Rattle.traces.specs.declared.registers.RegisterState.{RegisterState}
use Rattle.traces.specs.declared.registers.Holding.{Holding}
use Rattle.traces.specs.declared.registers.Holding.TheVariants.{Empty, Filling, Reference}
use Rattle.traces.specs.Registers.{fillings, held_references}
use Rattle.traces.specs.Books.{Book, reclaimed, returned, call_under_way, caller, pushed_after}
use Rattle.traces.specs.Lawful.{World}
use Rattle.traces.specs.Parts.{count_if, under_way, chain_of}
use Rattle.traces.specs.Making.{HasMade}

-- the place is with this lane
abbrev pub is_with : ℕ → Phase → Bool
is_with lane (with other) = other == lane
is_with lane (published content references mark) = false
is_with lane home = false
is_with lane retired = false

-- the places of the keys that these acts published
abbrev pub publishes : List Act → List ℕ
publishes [] = []
publishes (acts.Publish lane key content with_ref ∷ more) = place_of key ∷ publishes more
publishes (acts.Get lane key reply ∷ more) = publishes more
publishes (acts.Release lane key ∷ more) = publishes more
publishes (acts.Clear lane key reply ∷ more) = publishes more
publishes (acts.Reclaim lane key ∷ more) = publishes more
publishes (acts.Home lane place ∷ more) = publishes more
publishes (acts.Collect lane places ∷ more) = publishes more

-- the places that these acts collected
abbrev pub collected : List Act → List ℕ
collected [] = []
collected (acts.Collect lane places ∷ more) = places ++ collected more
collected (acts.Publish lane key content with_ref ∷ more) = collected more
collected (acts.Get lane key reply ∷ more) = collected more
collected (acts.Release lane key ∷ more) = collected more
collected (acts.Clear lane key reply ∷ more) = collected more
collected (acts.Reclaim lane key ∷ more) = collected more
collected (acts.Home lane place ∷ more) = collected more

-- the keys to which these acts gave a reference
abbrev pub gains : List Act → List ℕ
gains [] = []
gains (acts.Publish lane key content true ∷ more) = key ∷ gains more
gains (acts.Publish lane key content false ∷ more) = gains more
gains (acts.Get lane key (Some content) ∷ more) = key ∷ gains more
gains (acts.Get lane key None ∷ more) = gains more
gains (acts.Release lane key ∷ more) = gains more
gains (acts.Clear lane key reply ∷ more) = gains more
gains (acts.Reclaim lane key ∷ more) = gains more
gains (acts.Home lane place ∷ more) = gains more
gains (acts.Collect lane places ∷ more) = gains more

-- the keys to which these acts gave a reference back
abbrev pub releases : List Act → List ℕ
releases [] = []
releases (acts.Release lane key ∷ more) = key ∷ releases more
releases (acts.Publish lane key content with_ref ∷ more) = releases more
releases (acts.Get lane key reply ∷ more) = releases more
releases (acts.Clear lane key reply ∷ more) = releases more
releases (acts.Reclaim lane key ∷ more) = releases more
releases (acts.Home lane place ∷ more) = releases more
releases (acts.Collect lane places ∷ more) = releases more

-- 1 where the place is of the lane's shard, and of a page that isn't opened, else 0
abbrev pub unopened_of : ℕ → ℕ → ℕ → ℕ
unopened_of place lane opened = count_if ((shard_of place == lane) && not (nat_lt (page_of place) opened))

-- how often a lane has a place by its book, but for the call under way: unopened, on its list, on its chain, or filling
abbrev pub kept_in : ℕ → ℕ → Book → ℕ
kept_in place lane b = unopened_of place lane b.opened + times place b.own + times place b.chain + fillings place b.registers

-- what a register holds is of a key of the shape; a filling's key is current until it is published
abbrev pub IsHolding : Shape → Pool → List Act → Holding → Type 0
IsHolding z pool made Empty = Unit {0}
IsHolding z pool made (Filling key content) = (is_key z key ≡ true)
    × (times (place_of key) (publishes made) ≡ 0 → is_current z pool key ≡ true)
IsHolding z pool made (Reference key content) = is_key z key ≡ true

-- so does each register
abbrev pub AreHolding : Shape → Pool → List Act → List RegisterState → Type 0
AreHolding z pool made [] = Unit {0}
AreHolding z pool made (register ∷ more) = IsHolding z pool made register.holding × AreHolding z pool made more

-- what holds of a lane's book in the pool
pub record IsOwned (z : Shape) (pool : Pool) (lane : ℕ) (b : Book) : Type 0 where
  -- the call under way has made its first steps, with their acts
  pub call : HasMade (caller z lane b) (call_under_way b) b.steps b.acts
  -- a place is with the lane just where it is in the book: the call's acts brought some and took some
  pub places : (place : ℕ) → is_place z place ≡ true
      → kept_in place lane b + times place (reclaimed z.last_generation b.acts) + times place (collected b.acts)
      ≡ count_if (is_with lane (pool place).phase) + times place (returned b.acts) + times place (publishes b.acts)
  -- the lane's references to a key are its registers with it: the call's acts gave some and gave some back
  pub references : (key : ℕ) → held_references key b.registers + times key (gains b.acts)
      ≡ references z pool lane key + times key (releases b.acts)
  -- what is in the lists are places of the shape
  pub inside : (place : ℕ) → 0 < times place b.own + times place b.chain + times place (reclaimed z.last_generation b.acts) + times place
      (collected b.acts)
      → is_place z place ≡ true
  pub sixteen : length b.registers ≡ 16
  pub holding : AreHolding z pool b.acts b.registers

-- the lanes as they are after the steps of their calls under way: also what these have pushed
abbrev pub lanes_now : Shape → World → Lanes
lanes_now z w = record {
  under = under_way z w;
  pushed = λ shard lane. pushed_after (w.books lane).steps (w.books lane).pushed shard;
  chain = chain_of w;
}

-- what holds before each step and each reply: the rule, and what each lane's book and the pool tell of each other
pub record Holds (z : Shape) (w : World) : Type 0 where
  pub rule : Rule z (moment w.words w.history (lanes_now z w))
  pub owned : (lane : ℕ) → lane < z.lanes → IsOwned z (pool_after z w.history) lane (w.books lane)
