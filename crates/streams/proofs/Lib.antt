mod Pieces
pub mod Sayings
pub mod SafeLines
