pub mod Lenders
pub mod Outs
pub mod Owners
pub mod Owning
pub mod Sweeps
