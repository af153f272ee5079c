mod Counting
pub mod Crossing
mod Making
mod Opened
