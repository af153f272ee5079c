pub mod Among
pub mod Numbers
pub mod Schedules
pub mod Outcomes
pub mod Search
pub mod Texts
