pub mod Deletions
pub mod FirstFaults
pub mod Insertions
pub mod Updates
pub mod Write
pub mod Writes
