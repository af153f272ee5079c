pub mod Fillings
pub mod Shared
pub mod Visits
