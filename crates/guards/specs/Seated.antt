-- What the calls of a seat do with its lane.
use Rattle.std.specs.Prelude.{◌≡◌, ◌==◌, ◌+◌, ◌⊎◌, ℕ, Bool, false, List, [], ◌∷◌, if◌then◌else◌}
use mathlib.Core.List.{IsPrefix}
use Rattle.keybits.specs.declared.shape.Shape.{Shape}
use Rattle.keybits.specs.Keys.{place_of, generation_of}
use Rattle.seqpool.specs.declared.act.Act.{Act}
use Rattle.seqpool.specs.declared.act.Act.TheVariants.{Publish, Get, Release, Clear, Reclaim, Home, Collect}
use Rattle.steplaws.specs.Calls.Call.{Publishing, Clearing}
use Rattle.shardpool.specs.Tokens.{LaneOf, FillingOf}
use Rattle.shardpool.specs.Lanes.{Made, Calls, Did, holds}
use Rattle.shardpool.specs.Creates.{Gives, GivesNone}
use Rattle.poollaws.specs.Rooms.{KnowsRoom}

-- what the lane has seen goes on, and what it knows of rooms it goes on to know
pub record GoesOn (old new : LaneOf) : Type 0 where
  pub seen : IsPrefix old.book.seen new.book.seen
  pub rooms : (key size : ℕ) → KnowsRoom old key size → KnowsRoom new key size

-- what goes on twice goes on
abbrev pub GoesOnLaw : Type 0
GoesOnLaw = (first second third : LaneOf) → GoesOn first second → GoesOn second third → GoesOn first third

-- the lane's fillings and its references are as before
pub record Keeps (T : Type 0) (old new : LaneOf) : Type 0 where
  pub fillings : (filling : FillingOf T) → Made old filling → Made new filling
  pub held : (key : ℕ) → holds new key ≡ holds old key

-- the filling is of the place of a key, under the next generation
abbrev pub IsNextOf : {T : Type 0} → FillingOf T → ℕ → Type 0
IsNextOf filling key = (place_of filling.key ≡ place_of key) × (generation_of filling.key ≡ generation_of key + 1)

-- a create, a write of this content, and a publish under this key: the lane made these calls, and nothing more
pub record Puts {T : Type 0} (content : T → List ℕ) (room : T
    → ℕ) (z : Shape) (written : List ℕ) (old new : LaneOf) (key : ℕ) : Type 0 where
  pub between : LaneOf
  pub filling : FillingOf T
  pub gives : Gives content room old between filling
  pub key_is : key ≡ filling.key
  pub object : T
  pub holds : content object ≡ written
  pub called : Calls z (Publishing key written false) between.book new.book
  pub publishes : Did (Publish old.number key written false ∷ []) between new
  pub knows : KnowsRoom new key (room object)

-- the lane made a create that gave a place, and nothing more
abbrev pub CreatesOne : {T : Type 0} → (T → List ℕ) → (T → ℕ) → LaneOf → LaneOf → Type 0
CreatesOne {T} content room old new = (filling : FillingOf T) × Gives content room old new filling

-- the lane made a create that gave a place with such an object, and nothing more
abbrev pub CreatesSuch : {T : Type 0} → (T → Type 0) → (T → List ℕ) → (T → ℕ) → LaneOf → LaneOf → Type 0
CreatesSuch {T} such content room old new = (filling : FillingOf T) × Gives content room old new filling × such filling.object

-- the lane made a create, and nothing more
abbrev pub CreatesAtMost : {T : Type 0} → (T → List ℕ) → (T → ℕ) → LaneOf → LaneOf → Type 0
CreatesAtMost content room old new = GivesNone old new ⊎ CreatesOne content room old new

-- the lane made a clear of a key, with this answer, and nothing more
pub record Clears (z : Shape) (key : ℕ) (marked : Bool) (old new : LaneOf) : Type 0 where
  pub called : Calls z (Clearing key) old.book new.book
  pub rest : List Act
  pub did : Did (Clear old.number key marked ∷ rest) old new

-- the lane heard a message by a look, and did nothing more
pub record Hears (old new : LaneOf) : Type 0 where
  pub did : Did [] old new
  pub steps : new.book.steps ≡ old.book.steps
  pub looks : new.book.looks ≡ old.book.looks + 1

-- the content with which a key is published in a history; the empty one where it isn't
abbrev pub content_in : List Act → ℕ → List ℕ
content_in [] key = []
content_in (Publish lane other content with_ref ∷ more) key = if other == key then content else content_in more key
content_in (Get lane other reply ∷ more) key = content_in more key
content_in (Release lane other ∷ more) key = content_in more key
content_in (Clear lane other reply ∷ more) key = content_in more key
content_in (Reclaim lane other ∷ more) key = content_in more key
content_in (Home lane place ∷ more) key = content_in more key
content_in (Collect lane places ∷ more) key = content_in more key

-- a message: a key, and the content with which it is published
pub record ToldOf : Type 0 where
  pub key : ℕ
  pub content : List ℕ
