-- How a pool is closed: its lanes taken apart, shares back in their slots, cells dropped.
pub mod RemainingShares
pub mod DroppedCells
pub mod ReturnedShares
pub mod Parts
pub mod LaneParts
pub mod GoneGuests
pub mod LastHistory
pub mod GuestHands
pub mod GridEnd
pub mod SortedLanes
