-- What a lane does that drops a filling, and what holds after it.
use Rattle.std.specs.Prelude.{◌≡◌, ℕ, ◌+◌, Bool, false, List, Option}
use denote.RawPtr.{Ptr}
use Rattle.atomic_table.specs.Table.{Me}
use Rattle.atomic_table.specs.declared.shared.Seat.{Seat}
use Rattle.keybits.specs.declared.shape.Shape.{Shape}
use Rattle.keybits.specs.Keys.{place_of}
use Rattle.seqpool.specs.declared.act.Act.TheVariants as acts
use Rattle.seqpool.specs.Histories.{ClearedAt}
use Rattle.steplaws.specs.Calls.Call.{Publishing}
use Rattle.poolsteps.specs.Share.{Share}
use Rattle.poolsteps.specs.Shares.{room_of}
use Rattle.poolsteps.specs.Whole.{Whole}
use Rattle.poolsteps.specs.Layout.{spots_at}
use Rattle.poolsteps.specs.declared.grid.Grid.{Grid}
use Rattle.poolsteps.specs.declared.view.View.{View}
use Rattle.poolsteps.specs.Views.{the_lane}
use Rattle.poolsteps.specs.Told.{MayPublish}
use Rattle.seatcalls.specs.Bounds.{most_call_looks}
use Rattle.seatcalls.specs.Carried.{AreEmptied}
use Rattle.seatcalls.specs.Called.{Called, MadeOne}
use Rattle.shardpool.specs.declared.pool.LaneState.{LaneState}
use Rattle.shardpool.specs.Tokens.{PoolOf, LaneOf, FillingOf}
use Rattle.shardpool.specs.Lanes.{refs}
use Rattle.shardpool.specs.Finishes.{MayKeep, MayClear, ClearsAndKeeps}
use Rattle.shardpool.specs.AfterCalls.{Continues, KeepsOthers, HoldsAsMany, AfterPublish, AfterClear}

-- ---- over a hand

module _ {S T : Type 0} (content : T → List ℕ) (room : T → ℕ) (z : Shape) (key : ℕ) (object : T) where
  -- the lane published the object under the key, without a reference
  pub record PublishesObject (before after : Me S View) : Type 0 where
    pub called : Called z (Publishing key (content object) false) most_call_looks before after
    pub act : MadeOne before.0 after.0 (acts.Publish (the_lane before.0).lane key (content object) false)
    pub room_is : room_of after.0.seen after.0.rooms (place_of key) ≡ room object

  -- the lane dropped a filling: it published the object and cleared the key, each by its call, and keeps what became of the place
  pub record DiscardsAndKeeps (directory : Ptr) (before after : Me S View) (s t : LaneState T) : Type 0 where
    pub published : Me S View
    pub publishes : PublishesObject before published
    pub marked : Bool
    pub clears : ClearsAndKeeps content room z key directory (most_call_looks + 2) published after s t marked

-- the lane may drop a filling of this object: whatever it then saw at its publish, it may clear the key
pub record MayDiscardAndKeep {T : Type 0} (content : T → List ℕ) (room : T → ℕ) (grid : Grid T) (seat : Seat (Option (Share T)) View)
    (s : LaneState T) (here key : ℕ) (whole : Whole T) : Type 0 where
  pub keeps : MayKeep content room grid seat s here key
  pub publish : MayPublish grid.shape seat.me.0 key
  pub emptied : AreEmptied grid.shape (the_lane seat.me.0) (place_of key)
  pub at : whole.spot ≡ spots_at grid.objects.ptr grid.shape (place_of key)
  pub clear : (published : Me (Option (Share T)) View) → PublishesObject content room grid.shape key whole.object seat.me published
      → MayClear content room grid.shape key grid.objects.ptr published s

-- ---- as the pool's contract says it

module _ {T : Type 0} (content : T → List ℕ) (size : T → ℕ) where
  -- after a filling was dropped
  pub record AfterDiscard (pool : PoolOf) (filling : FillingOf T) (old new : LaneOf) : Type 0 where
    pub continues : Continues pool old new
    pub open continues use *
    -- the lane published it, and then cleared its key; false where another caller had cleared it first
    pub between : LaneOf
    pub marked : Bool
    pub publishes : AfterPublish content size pool filling old between filling.key
    pub clears : AfterClear T pool filling.key between new marked
    -- so the key is cleared
    pub gone : (position : ℕ) × ClearedAt new.book.seen position filling.key
    -- all references are as before
    pub refs : refs new ≡ refs old
    pub held : HoldsAsMany old new
    -- it is no filling of the lane any more; the others are
    pub fillings : KeepsOthers T filling.key old new
