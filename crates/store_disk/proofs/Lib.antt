pub mod Lawful
pub mod Keeping
pub mod LaidAlone
pub mod Opened
pub mod LeftKept
