mod Merging
mod PortionFields
mod PortionSent
mod PortionSteps
pub mod ShareLemmas
mod Steps
mod UnboxedFields
