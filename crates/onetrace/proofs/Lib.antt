pub mod Replies
pub mod Steps
pub mod Turns
pub mod Onward
