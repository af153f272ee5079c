-- What calls do with lanes: the words of the pool's contracts.
use Rattle.std.specs.Prelude.{◌≡◌, ◌==◌, ◌&&◌, ℕ, ◌<◌, ◌≤◌, true, false, not, List, [], ◌∷◌, ◌++◌, length, Contains, Option, Some, None, if◌then◌else◌}
use Rattle.keybits.specs.declared.shape.Shape.{Shape}
use Rattle.keybits.specs.declared.place.Place.{Place}
use Rattle.keybits.specs.Places.{shard_of, page_of, number_of}
use Rattle.keybits.specs.Shapes.{is_place}
use Rattle.keybits.specs.Keys.{place_of, generation_of}
use Rattle.freelists.specs.Shards.{place_numbered}
use Rattle.seqpool.specs.declared.act.Act.{Act}
use Rattle.seqpool.specs.declared.act.Act.TheVariants as acts
use Rattle.seqpool.specs.Pool.{with, has, references_in, is_marked, pool_after, IsLegal}
use Rattle.seqpool.specs.Histories.{acts_of}
use Rattle.steplaws.specs.Calls.{Call}
use Rattle.poolsteps.specs.declared.view.View.{View}
use Rattle.poolsteps.specs.Layout.{slot_start}
use Rattle.poolsteps.specs.Views.{the_lane}
use Rattle.poolsteps.specs.Told.{MayPublish, references_seen}
use Rattle.poolsteps.specs.ViewLaws.{references_made}
use Rattle.seatcalls.specs.Bounds.{most_looks}
use Rattle.seatcalls.specs.Carried.{AreEmptied}
use Rattle.seatcalls.specs.Called.{Called}
use Rattle.seatcalls.specs.Visitors.{GuestOf}
use Rattle.shardpool.specs.Tokens.{PoolOf, LaneOf, FillingOf, RefOf, NoteOf}
use Rattle.seatcalls.specs.Left.{held_after}

-- the lane is one of the pool
abbrev pub Owns : PoolOf → LaneOf → Type 0
Owns pool lane = (lane.table ≡ pool.table) × (lane.shape ≡ pool.shape) × (lane.directory ≡ pool.directory)

-- the guest is one of the pool
abbrev pub OwnsGuest : PoolOf → GuestOf → Type 0
OwnsGuest pool guest = (guest.table ≡ pool.table) × (guest.shape ≡ pool.shape)

-- the note is of the pool
abbrev pub Issued : PoolOf → NoteOf → Type 0
Issued pool note = note.table ≡ pool.table

-- how many references the lane has: those that its acts made, less those that they gave back
abbrev pub refs : LaneOf → ℕ
refs lane = held_after (the_lane lane.book).mine 0

-- how many references the lane has to a key
abbrev pub holds : LaneOf → ℕ → ℕ
holds lane key = references_seen lane.shape lane.book key

-- the lane has a reference to each marked key
abbrev pub AreHeld : LaneOf → Type 0
AreHeld lane = (place : ℕ) → is_place lane.shape place ≡ true → is_marked (pool_after lane.shape lane.book.seen place).phase ≡ true
    → 0 < references_in (pool_after lane.shape lane.book.seen place).phase lane.number

-- a place of a lane's shard that it has free after a history: of an opened page, and with the lane
pub record IsKept (z : Shape) (history : List Act) (lane : LaneOf) (place : ℕ) : Type 0 where
  pub inside : is_place z place ≡ true
  pub own : shard_of place ≡ lane.number
  pub opened : page_of place < lane.pages.opened
  pub with_lane : (pool_after z history place).phase ≡ with lane.number

-- the first of these places, if there is one
abbrev pub first_place : List ℕ → Option Place
first_place [] = None
first_place (place ∷ more) = Some (place_numbered place)

-- a place of the lane's shard is a filling: of an opened page, with the lane, and neither on its list nor on its taken chain
pub record IsFilling (lane : LaneOf) (place : ℕ) : Type 0 where
  pub inside : is_place lane.shape place ≡ true
  pub own : shard_of place ≡ lane.number
  pub opened : page_of place < lane.pages.opened
  pub with_lane : (pool_after lane.shape lane.book.seen place).phase ≡ with lane.number
  pub unlisted : (at : Place) → Contains lane.free.own at → number_of at ≡ place → ⊥
  pub unchained : has (the_lane lane.book).chain place ≡ false

-- the lane made the filling: the key is the next of a place that is a filling of the lane, and stands where the filling says
pub record Made {T : Type 0} (lane : LaneOf) (filling : FillingOf T) : Type 0 where
  pub table : filling.table ≡ lane.table
  pub directory : filling.directory ≡ lane.directory
  pub start : filling.start ≡ slot_start lane.shape (place_of filling.key)
  pub place : IsFilling lane (place_of filling.key)
  pub may : MayPublish lane.shape lane.book filling.key
  pub emptied : AreEmptied lane.shape (the_lane lane.book) (place_of filling.key)

-- it is the same lane
abbrev pub SameLane : LaneOf → LaneOf → Type 0
SameLane old new = (new.table ≡ old.table) × (new.shape ≡ old.shape) × (new.number ≡ old.number) × (new.directory ≡ old.directory)

-- between two views the lane made one call: its steps, each by the step relation, the acts that these made, and nothing more
abbrev pub Calls : Shape → Call → View → View → Type 0
Calls z call v w = Called {S = Unit {0}} z call most_looks (v, []) (w, [])

-- the places that acts of a lane brought to its own list: those of its shard that it reclaimed below the last generation
abbrev pub freed : Shape → ℕ → List Act → List Place
freed z lane [] = []
freed z lane (acts.Publish l key content with_ref ∷ more) = freed z lane more
freed z lane (acts.Get l key reply ∷ more) = freed z lane more
freed z lane (acts.Release l key ∷ more) = freed z lane more
freed z lane (acts.Clear l key reply ∷ more) = freed z lane more
freed z lane (acts.Reclaim l key ∷ more) =
    if (shard_of (place_of key) == lane) && not (generation_of key == z.last_generation)
    then place_numbered (place_of key) ∷ freed z lane more else freed z lane more
freed z lane (acts.Home l place ∷ more) = freed z lane more
freed z lane (acts.Collect l places ∷ more) = freed z lane more

-- what the lane has seen goes on from what it had seen: with these acts of its own, among those of other lanes, and a room beside each
pub record SeesOn (made : List Act) (old new : LaneOf) : Type 0 where
  pub more : List Act
  pub seen : new.book.seen ≡ old.book.seen ++ more
  pub own : acts_of (the_lane old.book).lane more ≡ made
  pub kept : List ℕ
  pub rooms : new.book.rooms ≡ old.book.rooms ++ kept
  pub paired : length kept ≡ length more
  pub legal : IsLegal new.shape new.book.seen

-- the lane made these acts, and what it has followed: its references, and its own list; its pages are as before
pub record Did (made : List Act) (old new : LaneOf) : Type 0 where
  pub goes : SeesOn made old new
  pub same : SameLane old new
  pub mine : (the_lane new.book).mine ≡ (the_lane old.book).mine ++ made
  pub held : (key : ℕ) → holds new key ≡ references_made made key (holds old key)
  pub list : new.free ≡ record old.free { own = old.free.own ++ freed old.shape old.number made }
  pub pages : new.pages ≡ old.pages

-- what a get of a key of the pool did: with a reference the reply is a content, and without one it is none
abbrev pub Gets : ℕ → LaneOf → LaneOf → Option RefOf → Type 0
Gets key old new None = (rest : List Act) × Did (acts.Get old.number key None ∷ rest) old new
Gets key old new (Some reference) = (reference.key ≡ key) × (1 ≤ holds new key)
    × (content : List ℕ) × Did (acts.Get old.number key (Some content) ∷ []) old new
