pub mod Given
pub mod Scans
pub mod ScriptFaults
pub mod Settled
pub mod Stretches
pub mod Taken
