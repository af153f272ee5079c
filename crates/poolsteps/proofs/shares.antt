-- Who has which share of which cell: what acts and moves keep of it.
pub mod Cases
pub mod Rooms
pub mod Phases
pub mod PlaceShares
pub mod Restocking
pub mod Starting
pub mod Acting
pub mod Publishing
pub mod Reclaiming
pub mod Rights
pub mod Holders
pub mod Resting
pub mod Moving
pub mod WithPlaces
pub mod HeldContents
