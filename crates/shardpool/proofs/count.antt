-- The census: how each place is counted once.
pub mod Marks
pub mod Walks
pub mod Given
pub mod Lists
pub mod Counts
pub mod Shards
pub mod Rounds
