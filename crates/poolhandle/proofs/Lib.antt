mod Carrying
mod Counting
mod Keeping
mod Owned
mod References
pub mod SlotFields
pub mod Steps
mod Turning
