pub mod Ends
mod Counts
pub mod Kept
mod ClearActs
mod ClearsAlone
pub mod Clearing
pub mod Passing
pub mod Guests
