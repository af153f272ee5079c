pub mod ByteBuf
pub mod Parts
pub mod Portion
pub mod Share
pub mod Whole
