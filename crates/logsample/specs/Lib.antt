pub mod Requests
pub mod Histories
pub mod Tasks
pub mod Closed
