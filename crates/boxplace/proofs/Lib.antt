mod LooseFields
mod PlaceFields
mod PlaceSteps
mod Steps
pub mod UnboxedFields
