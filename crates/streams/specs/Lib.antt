pub mod Watching
pub mod Saying
pub mod Shown
pub mod Lines
pub mod Reasons
