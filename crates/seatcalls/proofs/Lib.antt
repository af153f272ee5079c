pub mod KeptHands
pub mod parts
