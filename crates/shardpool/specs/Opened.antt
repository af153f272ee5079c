-- What a pool is when it is opened.
use Rattle.std.specs.Prelude.{◌≡◌, ℕ, ◌+◌, ◌-◌, ◌<◌, false, List, [], length, replicate, Option, Some, None, slice_get}
use Rattle.atomic_table.specs.declared.shared.Seat.{Seat}
use Rattle.keybits.specs.ShapeFaults.{shape_fault_number}
use Rattle.poolsteps.specs.declared.view.View.{View}
use denote.RawPtr.{Ptr}
use Rattle.keybits.specs.declared.shape.Shape.{Shape as PoolShape}
use Rattle.keybits.specs.Shapes.{shard_places, callers}
use Rattle.freelists.specs.Shards.{shape_of}
use Rattle.slotcell.specs.declared.objects.Clear.{Ghosts}
use Rattle.poolsteps.specs.declared.grid.Grid.{Grid}
use Rattle.poolsteps.specs.Share.{Share}
use Rattle.poolsteps.specs.Grids.{IsFirstHand, IsUndealt}
use Rattle.seatcalls.specs.Visitors.{GuestOf}
use Rattle.poolsteps.specs.Layout.{slot_row, shard_start}
use Rattle.shardpool.specs.declared.pool.LaneState.{LaneState}
use Rattle.shardpool.specs.declared.opening.Unendowed.{Unendowed}
use Rattle.shardpool.specs.declared.fault.OpenFault.{OpenFault}
use Rattle.shardpool.specs.declared.fault.OpenFault.TheVariants.{Shape, Memory}
pub use Rattle.shardpool.specs.FirstViews.{first_book}
use Rattle.shardpool.specs.Tokens.{PoolOf, LaneOf, GuestsOf}
use Rattle.shardpool.specs.Lanes.{Owns}

-- the number of a fault: that of the shape's fault, and 5 for want of memory
abbrev pub open_fault_number : OpenFault → ℕ
open_fault_number (Shape fault) = shape_fault_number fault
open_fault_number Memory = 5

-- the lane of this number of the pool, which has seen and done nothing: it has no free place, and no page is opened
pub record IsFirstLane (pool : PoolOf) (number : ℕ) (lane : LaneOf) : Type 0 where
  pub owned : Owns pool lane
  pub number_is : lane.number ≡ number
  pub book : lane.book ≡ first_book number
  pub list : lane.free.own ≡ []
  pub chain : lane.free.chain ≡ None
  pub pages : lane.pages.opened ≡ 0

-- these are the lanes of the pool, by rising number, each before its first step
pub record AreFirstLanes (pool : PoolOf) (lanes : List LaneOf) : Type 0 where
  pub count : length lanes ≡ pool.shape.lanes
  pub each : (number : ℕ) (lane : LaneOf) → slice_get lanes number ≡ Some lane → IsFirstLane pool number lane

-- these are the guests of the pool, none of which was dealt
abbrev pub AreFirstGuests : PoolOf → GuestsOf → Type 0
AreFirstGuests pool guests = guests ≡ record { table = pool.table; shape = pool.shape; next = pool.shape.lanes }

-- the guest of this number of the pool, before its first step
abbrev pub IsFirstGuest : GuestsOf → ℕ → GuestOf → Type 0
IsFirstGuest guests number guest = guest ≡ record { table = guests.table; shape = guests.shape; number = number; book = first_book number }

-- the next guest was dealt, or all were
abbrev pub Deals : GuestsOf → GuestsOf → Option GuestOf → Type 0
Deals old new None = (old.next ≡ callers old.shape) × (new ≡ old)
Deals old new (Some guest) = (old.next < callers old.shape) × IsFirstGuest old old.next guest × (new ≡ record old { next = old.next + 1 })

-- ---- the parts of an open

-- this is the hand of the table's callers from this number on, before their first steps; where there are none, there is none
abbrev pub HasUndealt : {T : Type 0} → Grid T → ℕ → Option (Seat (Option (Share T)) View) → Type 0
HasUndealt grid next None = next ≡ callers grid.shape
HasUndealt grid next (Some hand) = (next < callers grid.shape) × IsUndealt grid next (callers grid.shape - next) hand

-- these are the hands of the table's lanes from this number on, by rising number, before their first steps
pub record AreFurtherHands {T : Type 0} (grid : Grid T) (first : ℕ) (hands : List (Seat (Option (Share T)) View)) : Type 0 where
  pub count : first + length hands ≡ grid.shape.lanes
  pub each : (index : ℕ) (hand : Seat (Option (Share T)) View) → slice_get hands index ≡ Some hand → IsFirstHand grid (first + index) hand

-- what the lane of this number keeps before it has a right to a place
pub record IsFirstState {T : Type 0} (z : PoolShape) (directory : Ptr) (number : ℕ) (s : LaneState T) : Type 0 where
  pub shape_is : s.shape ≡ z
  pub number_is : s.number ≡ number
  pub references : s.references ≡ 0
  pub rows : s.rows.items ≡ replicate (slot_row z) (record { generation = 0; count = 0; share = None })
  pub last_pushed : s.last_pushed.items ≡ replicate z.lanes 0
  pub free : s.free ≡ record { shard = number; shape = shape_of z.first_page z.pages; own = []; chain = None; room = s.free.room }
  pub pages : s.pages ≡ record { shard = number; shape = shape_of z.first_page z.pages; opened = 0 }
  pub objects : s.objects ≡ record {
    directory = directory;
    first = shard_start z number;
    items = replicate (shard_places z) None;
    rights = replicate (shard_places z)
        false;
  }
  pub places : s.places.shape ≡ z

-- these are the hands of the lanes of the table, by rising number, with what each keeps before it has a right to a place
pub record AreFirstParts {T : Type 0} {G : Ghosts T} (grid : Grid T) (parts : List (Unendowed T G)) : Type 0 where
  pub count : length parts ≡ grid.shape.lanes
  pub each : (number : ℕ) (part : Unendowed T G) → slice_get parts number ≡ Some part
      → IsFirstHand grid number part.hand × IsFirstState grid.shape grid.objects.ptr number part.state
