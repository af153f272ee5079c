pub mod Numbers
pub mod Splits
pub mod Entries
pub mod Schedules
pub mod Drawing
pub mod Stopping
pub mod Ends
