pub mod Words
pub mod Cleared
pub mod Rooms
pub mod Counted
pub mod Laws
pub mod GuestLaws
