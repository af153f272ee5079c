-- What each call leaves, put together from its steps, its rows and its free places.
pub mod Ends
pub mod QuietEnds
pub mod Openings
pub mod Creates
pub mod Gets
pub mod CallParts
pub mod KeyCalls
pub mod AfterCalls
pub mod Publishes
pub mod Releases
pub mod Halts
pub mod Loans
pub mod Discards
