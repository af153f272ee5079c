pub mod Endings
pub mod Verdicts
mod Running
mod Outcoming
mod Replaying
mod Refusals
