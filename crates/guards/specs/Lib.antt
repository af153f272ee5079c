pub mod Guarded
pub mod Fills
pub mod Here
pub mod Named
pub mod Seated
pub mod Runs
pub mod Rows
pub mod Several
