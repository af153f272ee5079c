pub mod Parts
pub mod Shortest
pub mod Words
pub mod Replays
pub mod Choices
pub mod Choosing
pub mod Plans
