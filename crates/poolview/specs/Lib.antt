pub mod Faults
pub mod Graphs
pub mod Shows
pub mod Endings
