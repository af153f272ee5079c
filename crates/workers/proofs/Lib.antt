pub mod Setting
pub mod Keeping
pub mod Contents
pub mod Running
pub mod Lining
pub mod Lanes
pub mod Pairs
pub mod Parting
