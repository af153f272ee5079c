pub mod Held
pub mod Begins
pub mod Lines
pub mod Tidy
pub mod Works
pub mod Steps
