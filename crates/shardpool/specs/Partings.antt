-- The hands of lanes, and what they keep.
use Rattle.std.specs.Prelude.{◌≡◌, ℕ, ◌<◌, ◌≤◌, List, [], length, Option, Some, slice_get}
use Rattle.atomic_table.specs.declared.shared.Seat.{Seat}
use Rattle.freelists.specs.Queues.{AreFree}
use Rattle.poolsteps.specs.Share.{Share}
use Rattle.poolsteps.specs.declared.view.View.{View}
use Rattle.shardpool.specs.declared.pool.LaneState.{LaneState}
use Rattle.seatcalls.specs.Visitors.{GuestOf, IsFree}
use Rattle.keybits.specs.Shapes.{callers}
use Rattle.poolsteps.specs.Views.{first_record, In}
use Rattle.shardpool.specs.Tokens.{LaneOf, GuestsOf}
use Rattle.shardpool.specs.LaneStates.{Fits}

module _ {T : Type 0} (content : T → List ℕ) (room : T → ℕ) where
  -- the lane is that of this hand and this state, which fit each other, and the places of its list are its own
  pub record IsParted (lane : LaneOf) (hand : Seat (Option (Share T)) View) (state : LaneState T) : Type 0 where
    pub lane_is : lane ≡ record {
      table = hand.table_id;
      directory = state.objects.directory;
      shape = state.shape;
      number = state.number;
      book = hand.me.0;
      free = state.free;
      pages = state.pages;
    }
    pub empty : hand.me.1 ≡ []
    pub fits : Fits content room state.shape hand.me.0 state
    pub free : AreFree state.free

  -- each lane is that of the hand and the state of its index
  pub record AreParted (lanes : List LaneOf) (hands : List (Seat (Option (Share T)) View)) (states : List (LaneState T)) : Type 0 where
    pub count : (length hands ≡ length lanes) × (length states ≡ length lanes)
    pub each : (index : ℕ) (lane : LaneOf) (hand : Seat (Option (Share T)) View) (state : LaneState T) → slice_get lanes index ≡ Some lane
        → slice_get hands index ≡ Some hand → slice_get states index ≡ Some state → IsParted lane hand state

-- these are the hands of guests that are back, one after another
pub record AreHandsOf {T : Type 0} (guests : List GuestOf) (hands : List (Seat (Option (Share T)) View)) : Type 0 where
  pub count : length hands ≡ length guests
  pub each : (index : ℕ) (guest : GuestOf) (hand : Seat (Option (Share T)) View) → slice_get guests index ≡ Some guest
      → slice_get hands index ≡ Some hand → (hand.table_id ≡ guest.table) × (hand.me ≡ (guest.book, [])) × IsFree guest

-- and these are those of guests that were never dealt: one of them all, if there are any
pub record AreUndealtHands {T : Type 0} (guests : GuestsOf) (hands : List (Seat (Option (Share T)) View)) : Type 0 where
  pub each : (index : ℕ) (hand : Seat (Option (Share T)) View) → slice_get hands index ≡ Some hand
      → (hand.table_id ≡ guests.table) × (hand.me.1 ≡ [])
  pub has : (number : ℕ) → guests.next ≤ number → number < callers guests.shape
      → (index : ℕ) × (hand : Seat (Option (Share T)) View) × (slice_get hands index ≡ Some hand) × In (first_record number) hand.me.0.lanes
      × (hand.me.0.seen ≡ [])
