pub mod CommandNames
pub mod ScriptFaults
pub mod ScriptPlaces
pub mod ScriptFiles
pub mod Readings
pub mod PlanValues
