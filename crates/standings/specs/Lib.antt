pub mod Alike
pub mod Behind
