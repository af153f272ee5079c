-- What the calls that take a closure do with a lane.
use Rattle.std.specs.Prelude.{◌≡◌, ℕ, ◌≤◌, true, false, List, [], ◌∷◌, Some, None}
use Rattle.std.specs.Fn.{FnOnceReturnsAtMut, Once}
use Rattle.std.specs.Borrow.{MutBor}
use mathlib.Core.List.{IsPrefix}
use Rattle.keybits.specs.Keys.{place_of, is_key}
use Rattle.seqpool.specs.declared.act.Act.{Act}
use Rattle.seqpool.specs.declared.act.Act.TheVariants as acts
use Rattle.poolsteps.specs.Shares.{room_of}
use Rattle.shardpool.specs.Tokens.{PoolOf, LaneOf, FillingOf, RefOf}
use Rattle.steplaws.specs.Calls.Call.{Publishing, Getting, Releasing}
use Rattle.shardpool.specs.Lanes.{Owns, Made, SameLane, Calls, Did, Gets, holds, refs}
use Rattle.shardpool.specs.Seen.{PublishedSince, MissedSince}
use Rattle.shardpool.specs.Creates.{Gives, GivesNone}

-- a create, a call of f on its object, and a publish of what the call left, under the key of the filling: the lane made these calls, and nothing more
pub record CreatesWith {T F : Type 0} (content : T → List ℕ) (room : T
    → ℕ) (g : Once F (MutBor T × Unit {0}) (Unit {0} × (MutBor T × Unit {0}))) (f : F) (old new : LaneOf) (key : ℕ) : Type 0 where
  pub between : LaneOf
  pub filling : FillingOf T
  pub gives : Gives content room old between filling
  pub object : T
  pub ran : FnOnceReturnsAtMut g f filling.object tt object
  pub key_is : key ≡ filling.key
  pub called : Calls old.shape (Publishing key (content object) false) between.book new.book
  pub publishes : Did (acts.Publish old.number key (content object) false ∷ []) between new
  pub published : PublishedSince key (content object) false old new
  pub room_is : room_of new.book.seen new.book.rooms (place_of key) ≡ room object

-- a get that found the key, and a release of its reference: the lane made these calls, and nothing more
pub record Uses (key : ℕ) (old new : LaneOf) : Type 0 where
  pub between : LaneOf
  pub reference : RefOf
  pub get_called : Calls old.shape (Getting key) old.book between.book
  pub gets : Gets key old between (Some reference)
  pub release_called : Calls old.shape (Releasing key) between.book new.book
  pub rest : List Act
  pub releases : Did (acts.Release old.number key ∷ rest) between new

-- the lane of the pool has the reference, so that it may give it back
abbrev pub MayRelease : PoolOf → LaneOf → RefOf → Type 0
MayRelease pool lane reference = Owns pool lane × (1 ≤ holds lane reference.key)

-- the lane of the pool made the filling, so that it may publish it
abbrev pub MayPublish : {T : Type 0} → PoolOf → LaneOf → FillingOf T → Type 0
MayPublish pool lane filling = Owns pool lane × Made lane filling

-- a get of a key that gave none, for a lane of the pool: where the number is a key it made this call, and nothing more
pub record Misses (T : Type 0) (pool : PoolOf) (key : ℕ) (old new : LaneOf) : Type 0 where
  pub owns : Owns pool new
  pub outside : is_key pool.shape key ≡ false → new ≡ old
  pub called : is_key pool.shape key ≡ true → Calls pool.shape (Getting key) old.book new.book
  pub gets : is_key pool.shape key ≡ true → Gets key old new None
  pub same : SameLane old new
  pub missed : MissedSince key old new
  pub seen : IsPrefix old.book.seen new.book.seen
  pub refs_are : refs new ≡ refs old
  pub held : (other : ℕ) → holds new other ≡ holds old other
  pub fillings : (filling : FillingOf T) → Made old filling → Made new filling

-- a create that gave no place, for a lane of the pool
pub record Refuses (T : Type 0) (pool : PoolOf) (old new : LaneOf) : Type 0 where
  pub owns : Owns pool new
  pub none : GivesNone old new
  pub fillings : (filling : FillingOf T) → Made old filling → Made new filling
