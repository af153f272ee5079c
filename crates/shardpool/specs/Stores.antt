-- What a lane does with its free places and their objects.
use Rattle.std.specs.Prelude.{◌≡◌, ℕ, true, false, [], ◌∷◌, ◌++◌, length, Option, Some, None, slice_get, slice_set}
use Rattle.keybits.specs.declared.place.Place.{Place}
use Rattle.keybits.specs.Places.{shard_of, number_of}
use Rattle.keybits.specs.declared.shape.Shape.{Shape}
use Rattle.keybits.specs.Shapes.{shard_places, index_of}
use Rattle.keybits.specs.Links.{link_to, linked_place}
use Rattle.freelists.specs.Shards.{IsOwn, place_numbered}
use Rattle.freelists.specs.Queues.{AreFree, IsAway}
use Rattle.poolsteps.specs.Objects.{ObjectsOf}
use Rattle.poolsteps.specs.Layout.{shard_start}
use Rattle.seatcalls.specs.declared.at.Reclaimed.{Reclaimed}
use Rattle.seatcalls.specs.declared.at.Reclaimed.TheVariants.{Own, Returned, Retired}
use Rattle.shardpool.specs.declared.pool.LaneState.{LaneState}

-- these are rows of one directory, from the same word on
abbrev pub SameRows : {T : Type 0} → ObjectsOf T → ObjectsOf T → Type 0
SameRows old new = (new.directory ≡ old.directory) × (new.first ≡ old.first)

-- they are of the places of this shard
abbrev pub AreOfShard : {T : Type 0} → Shape → ℕ → ObjectsOf T → Type 0
AreOfShard z shard objects = (objects.first ≡ shard_start z shard) × (length objects.items ≡ shard_places z)

-- the place went to the end of the lane's list, and its object to its index, where the lane has the right to it; nothing else is changed
pub record KeepsOwn {T : Type 0} (place : ℕ) (object : T) (old new : LaneState T) : Type 0 where
  pub objects : new.objects.items ≡ slice_set old.objects.items (index_of old.shape place) (Some object)
  pub rights : new.objects.rights ≡ slice_set old.objects.rights (index_of old.shape place) true
  pub same : SameRows old.objects new.objects
  pub list : new.free ≡ record old.free { own = old.free.own ++ place_numbered place ∷ [] }
  pub free : AreFree new.free
  pub rest : new ≡ record old { objects = new.objects; free = new.free }

-- the word of this place is the one that the lane pushed last for its shard; nothing else is changed
pub record KeepsTop {T : Type 0} (place : ℕ) (old new : LaneState T) : Type 0 where
  pub last_pushed : new.last_pushed.items ≡ slice_set old.last_pushed.items (shard_of place) (link_to place)
  pub rest : new ≡ record old { last_pushed = new.last_pushed }

-- the state after a place was reclaimed or not: the object of an own place is kept, and of a returned place the word
abbrev pub Keeps : {T : Type 0} → ℕ → Option (Reclaimed T) → LaneState T → LaneState T → Type 0
Keeps place None old new = new ≡ old
Keeps place (Some (Own whole)) old new = KeepsOwn place whole.object old new
Keeps place (Some Returned) old new = KeepsTop place old new
Keeps place (Some Retired) old new = new ≡ old

-- the first place of the lane's list came off it, and left its index with its object; nothing else is changed
pub record TakesOwn {T : Type 0} (place : Place) (object : T) (old new : LaneState T) : Type 0 where
  pub list : old.free.own ≡ place ∷ new.free.own
  pub stood : slice_get old.objects.items (index_of old.shape (number_of place)) ≡ Some (Some object)
  pub objects : new.objects ≡ record old.objects {
    items = slice_set old.objects.items (index_of old.shape (number_of place)) None;
    rights = slice_set old.objects.rights (index_of old.shape (number_of place)) false;
  }
  pub away : IsAway new.free place
  pub free : AreFree new.free
  pub own : new.free ≡ record old.free { own = new.free.own }
  pub rest : new ≡ record old { objects = new.objects; free = new.free }

-- the place that this word leads to is the first of the taken chain; nothing else is changed
pub record Hangs {T : Type 0} (found : ℕ) (old new : LaneState T) : Type 0 where
  pub list : new.free ≡ record old.free { chain = Some (place_numbered (linked_place old.number found)) }
  pub rest : new ≡ record old { free = new.free }

-- the taken chain goes on by this link word behind its first place; nothing else is changed
pub record FollowsOn {T : Type 0} (link : ℕ) (old new : LaneState T) : Type 0 where
  pub ends : link ≡ 0 → new.free.chain ≡ None
  pub goes : (next : Place) → IsOwn old.free.shard old.free.shape next → link ≡ link_to (number_of next) → new.free.chain ≡ Some next
  pub list : new.free ≡ record old.free { chain = new.free.chain }
  pub free : AreFree new.free
  pub rest : new ≡ record old { free = new.free }
