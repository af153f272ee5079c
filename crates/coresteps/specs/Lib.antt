pub mod OwnLists
pub mod Lanes
pub mod Kept
pub mod Notes
pub mod Writes
