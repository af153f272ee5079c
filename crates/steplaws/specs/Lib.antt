pub mod Calls
pub mod Facts
pub mod StepLaws
pub mod MomentLaws
