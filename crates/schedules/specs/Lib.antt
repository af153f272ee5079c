pub mod Numbers
pub mod Parts
pub mod Schedules
pub mod Draws
pub mod Stops
