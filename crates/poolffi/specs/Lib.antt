pub mod Attached
pub mod ByteCalls
pub mod Callers
pub mod Codes
pub mod Exports
pub mod PoolSlots
