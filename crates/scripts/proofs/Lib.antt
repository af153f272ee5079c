pub mod Registers
pub mod Values
pub mod Sequences
pub mod Plans
pub mod PlanValuesRead
