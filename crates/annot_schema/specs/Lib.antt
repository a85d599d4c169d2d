pub mod FoundCycle
pub mod Created
pub mod Fault
pub mod OwnedTables
pub mod Reported
