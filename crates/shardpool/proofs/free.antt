-- The free places of a lane: its own list, its taken chain, its pages, and the objects that wait there.
pub mod Stores
pub mod Rights
pub mod Chains
pub mod Known
pub mod Pages
pub mod OwnLists
pub mod Takes
pub mod Gathers
pub mod Words
pub mod Starts
pub mod EmptiedRows
