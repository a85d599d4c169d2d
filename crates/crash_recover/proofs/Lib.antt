pub mod Faults
pub mod FoundAreas
pub mod JudgedAreas
pub mod Openings
pub mod ReadParts
pub mod ReadRecords
pub mod Undisturbed
