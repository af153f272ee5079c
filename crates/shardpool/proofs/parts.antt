-- The parts of calls: how steps and moves are put together, and told as the steps of a call.
pub mod Filling
pub mod AtOnce
pub mod Discarding
pub mod Following
pub mod Keying
pub mod Chaining
pub mod Returners
pub mod Collecting
pub mod Within
pub mod Giving
pub mod Handing
pub mod Settling
pub mod Halting
pub mod Taking
