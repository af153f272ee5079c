pub mod Numbers
pub mod Fields
pub mod Counts
pub mod Dues
pub mod Insides
pub mod Legals
