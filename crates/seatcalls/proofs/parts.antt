-- The parts of calls: how steps and moves are put together, and told as the steps of a call.
pub mod Doing
pub mod Returning
pub mod Ending
pub mod Calling
pub mod Standing
pub mod Moves
pub mod Going
pub mod GivingBits
pub mod Frames
pub mod OtherShards
pub mod RetiredPlaces
pub mod Visiting
pub mod Referring
pub mod SweptWords
pub mod Sweeping
pub mod Sighting
