-- What a call leaves alone: what of a lane, its places and its history stays while it or others act.
pub mod LaneFrames
pub mod Standing
pub mod KeptPlaces
pub mod BlankPlaces
pub mod LaneFacts
pub mod SeenHistories
pub mod Looks
pub mod Tellings
pub mod OneLane
