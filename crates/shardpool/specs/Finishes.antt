-- What a lane does behind a LEAVE, or in a clear, and keeps of it.
use Rattle.std.specs.Prelude.{◌≡◌, ◌<◌, ℕ, Bool, true, false, List, [], Option, Some, IfSome, length, slice_index}
use denote.RawPtr.{Ptr}
use Rattle.atomic_table.specs.Table.{Me}
use Rattle.atomic_table.specs.declared.shared.Seat.{Seat}
use Rattle.poolsteps.specs.Whole.{Whole}
use Rattle.keybits.specs.declared.shape.Shape.{Shape}
use Rattle.keybits.specs.Keys.{place_of, is_key}
use Rattle.keybits.specs.Places.{shard_of}
use Rattle.keybits.specs.Shapes.{IsShape, is_place, shard_places}
use Rattle.freelists.specs.Shards.{place_numbered}
use Rattle.freelists.specs.Queues.{IsAway}
use Rattle.poolsteps.specs.declared.view.View.{View}
use Rattle.poolsteps.specs.Views.{the_lane, pushed_in, IsOne}
use Rattle.poolsteps.specs.declared.grid.Grid.{Grid}
use Rattle.poolsteps.specs.Share.{Share}
use Rattle.poolsteps.specs.Grids.{IsOf}
use Rattle.poolsteps.specs.Layout.{slot_start, shard_start, spots_at}
use Rattle.poolsteps.specs.Told.{IsIdle, Leaves}
use Rattle.steplaws.specs.StepLaws.{owed_after}
use Rattle.steplaws.specs.declared.pending.Pending.TheVariants.{Undo}
use Rattle.seatcalls.specs.declared.at.Reclaimed.{Reclaimed}
use Rattle.seatcalls.specs.declared.at.Reclaimed.TheVariants.{Own}
use Rattle.seatcalls.specs.Called.{Ends, EndsWithActs, IsLawful, IsReclaimed}
use Rattle.shardpool.specs.Clears.{Clears}
use Rattle.shardpool.specs.declared.pool.LaneState.{LaneState}
use Rattle.shardpool.specs.Stores.{Keeps}

-- the lane, whose places stand in this directory, can keep what becomes of a place, and knows the word that it last pushed to the place's shard
pub record IsKeeper {T : Type 0} (z : Shape) (directory : Ptr) (place : ℕ) (v : View) (s : LaneState T) : Type 0 where
  pub shape : IsShape z
  pub shape_is : s.shape ≡ z
  pub directory_is : s.objects.directory ≡ directory
  pub narrow : length s.objects.items ≡ shard_places z
  pub wide : length s.last_pushed.items ≡ z.lanes
  pub begins : s.objects.first ≡ shard_start z s.free.shard
  pub lane : s.number ≡ (the_lane v).lane
  pub below : s.number < z.lanes
  pub top : slice_index s.last_pushed.items (shard_of place) ≡ pushed_in (the_lane v).pushed (shard_of place)

module _ {S T : Type 0} (content : T → List ℕ) (room : T → ℕ) (z : Shape) (place found : ℕ) where
  -- whatever follows the LEAVE that found this word: an own place that is then reclaimed isn't on the lane's list
  abbrev pub MayFinish : Me S View → LaneState T → Type 0
  MayFinish before s = (after : Me S View) (reclaimed : Option (Reclaimed T)) → Ends z place found before after
      → EndsWithActs z place [] before.0 after.0 reclaimed
      → IfSome reclaimed (IsReclaimed content room z place s.number after.0) → (whole : Whole T) → reclaimed ≡ Some (Own whole)
      → IsAway s.free (place_numbered place)

  -- what follows the LEAVE was done, and what became of the place is kept
  pub record Finishes (before after : Me S View) (s t : LaneState T) : Type 0 where
    pub reclaimed : Option (Reclaimed T)
    pub ends : Ends z place found before after
    pub acts : EndsWithActs z place [] before.0 after.0 reclaimed
    pub told : IfSome reclaimed (IsReclaimed content room z place s.number after.0)
    pub kept : Keeps place reclaimed s t

module _ {S T : Type 0} (content : T → List ℕ) (room : T → ℕ) (z : Shape) (key : ℕ) where
  -- a call of the key entered and missed: it may undo its ENTER, and whatever follows that
  pub record MayMiss (directory : Ptr) (before : Me S View) (s : LaneState T) : Type 0 where
    pub under : (the_lane before.0).under ≡ Undo key false
    pub left : (found : ℕ) (left : Me S View) → Leaves z key before found left
        → IsLawful z left.0 × IsKeeper z directory (place_of key) left.0 s × MayFinish content room z (place_of key) found left s

  -- the ENTER was undone, and what follows that was done
  pub record Misses (before after : Me S View) (s t : LaneState T) : Type 0 where
    pub found : ℕ
    pub left : Me S View
    pub leaves : Leaves z key before found left
    pub finishes : Finishes content room z (place_of key) found left after s t

module _ {S T : Type 0} (content : T → List ℕ) (room : T → ℕ) (z : Shape) (key : ℕ) (directory : Ptr) where
  -- the lane may make a clear of the key: an own place that it then reclaims isn't on the lane's list
  abbrev pub MayClear : Me S View → LaneState T → Type 0
  MayClear before s = (looks : ℕ) (after : Me S View) (marked : Bool) (reclaimed : Option (Reclaimed T))
      → Clears content room z (spots_at directory z (place_of key)) key s.number looks before after marked reclaimed
      → (whole : Whole T) → reclaimed ≡ Some (Own whole) → IsAway s.free (place_numbered (place_of key))

  -- the lane made a clear of the key, in so many looks at most, with this reply, and keeps what became of the place
  pub record ClearsAndKeeps (looks : ℕ) (before after : Me S View) (s t : LaneState T) (marked : Bool) : Type 0 where
    pub reclaimed : Option (Reclaimed T)
    pub clears : Clears content room z (spots_at directory z (place_of key)) key s.number looks before after marked reclaimed
    pub kept : Keeps (place_of key) reclaimed s t

module _ {T : Type 0} (content : T → List ℕ) (room : T
    → ℕ) (grid : Grid T) (seat : Seat (Option (Share T)) View) (s : LaneState T) (here key : ℕ) where
  -- the hand is one lane's of the grid, with no share in it; the key's place stands here, and the lane can keep what becomes of it
  pub record MayKeep : Type 0 where
    pub hand : IsOf grid seat × IsOne seat.me.0
    pub bare : seat.me.1 ≡ []
    pub inside : is_place grid.shape (place_of key) ≡ true
    pub start : here ≡ slot_start grid.shape (place_of key)
    pub keeper : IsKeeper grid.shape grid.objects.ptr (place_of key) seat.me.0 s

  -- and its next call may be a clear of the key
  pub record MayClearAndKeep : Type 0 where
    pub keeps : MayKeep
    pub valid : is_key grid.shape key ≡ true
    pub idle : IsIdle seat.me.0
    pub may : MayClear content room grid.shape key grid.objects.ptr seat.me s

  -- and it left the place, and found this word there
  pub record MayFinishAndKeep (found : ℕ) : Type 0 where
    pub keeps : MayKeep
    pub seen : IsLawful grid.shape seat.me.0
    pub owes : (the_lane seat.me.0).under ≡ owed_after (place_of key) found
    pub may : MayFinish content room grid.shape (place_of key) found seat.me s
