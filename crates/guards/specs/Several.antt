-- What the calls that lend several objects at once do with a lane.
use Rattle.std.specs.Prelude.{◌≡◌, ◌⊎◌, ◌==◌, ◌+◌, ℕ, true, false, List, [], ◌∷◌, length, Some, None, if◌then◌else◌}
use Rattle.keybits.specs.declared.shape.Shape.{Shape}
use Rattle.keybits.specs.Keys.{is_key}
use Rattle.seqpool.specs.declared.act.Act.{Act}
use Rattle.seqpool.specs.declared.act.Act.TheVariants as acts
use Rattle.steplaws.specs.Calls.Call.{Getting, Releasing}
use Rattle.shardpool.specs.Tokens.{PoolOf, LaneOf, FillingOf, RefOf}
use Rattle.shardpool.specs.Lanes.{Owns, Made, SameLane, Calls, Did, Gets, holds, refs}
use Rattle.guards.specs.Seated.{GoesOn}

-- a get that found the key: the lane made this call, and nothing more
pub record Got (z : Shape) (key : ℕ) (old new : LaneOf) : Type 0 where
  pub called : Calls z (Getting key) old.book new.book
  pub reference : RefOf
  pub gets : Gets key old new (Some reference)

-- a get that found nothing: where the number is a key of the pool the lane made this call, and nothing more; and else it made none
pub record Missed (z : Shape) (key : ℕ) (old new : LaneOf) : Type 0 where
  pub outside : is_key z key ≡ false → new ≡ old
  pub called : is_key z key ≡ true → Calls z (Getting key) old.book new.book
  pub gets : is_key z key ≡ true → Gets key old new None

-- a release of a reference to the key: the lane made this call, and nothing more
pub record Gave (z : Shape) (key : ℕ) (old new : LaneOf) : Type 0 where
  pub called : Calls z (Releasing key) old.book new.book
  pub rest : List Act
  pub did : Did (acts.Release old.number key ∷ rest) old new

-- gets that found these keys, one after another, and the releases of their references, the last first: the lane made these calls, and nothing more
abbrev pub UsesAll : Shape → List ℕ → LaneOf → LaneOf → Type 0
UsesAll z [] old new = new ≡ old
UsesAll z (key ∷ more) old new = (got : LaneOf) × (left : LaneOf) × Got z key old got × UsesAll z more got left × Gave z key left new

-- gets of these keys, one after another up to the first that found nothing, and the releases of the references to those before it, the last first: the lane made these calls, and nothing more
abbrev pub TriesAll : Shape → List ℕ → LaneOf → LaneOf → Type 0
TriesAll z [] old new = ⊥
TriesAll z (key ∷ more) old new = Missed z key old new
    ⊎ ((got : LaneOf) × (left : LaneOf) × Got z key old got × TriesAll z more got left × Gave z key left new)

-- as many as before, and one more for each time that the key stands in the list
abbrev pub more_of : List ℕ → ℕ → ℕ → ℕ
more_of [] key count = count
more_of (other ∷ more) key count = if other == key then more_of more key count + 1 else more_of more key count

-- the lane of the pool has one reference more to each of these keys, and is else as it was
pub record Lends (T : Type 0) (pool : PoolOf) (keys : List ℕ) (old new : LaneOf) : Type 0 where
  pub owns : Owns pool new
  pub same : SameLane old new
  pub goes : GoesOn old new
  pub refs_are : refs new ≡ refs old + length keys
  pub held : (key : ℕ) → holds new key ≡ more_of keys key (holds old key)
  pub fillings : (filling : FillingOf T) → Made old filling → Made new filling

-- the lane of the pool gave back one reference to each of these keys, and is else as it was
pub record Returns (T : Type 0) (pool : PoolOf) (keys : List ℕ) (old new : LaneOf) : Type 0 where
  pub owns : Owns pool new
  pub same : SameLane old new
  pub goes : GoesOn old new
  pub refs_were : refs old ≡ refs new + length keys
  pub held : (key : ℕ) → holds old key ≡ more_of keys key (holds new key)
  pub fillings : (filling : FillingOf T) → Made old filling → Made new filling
