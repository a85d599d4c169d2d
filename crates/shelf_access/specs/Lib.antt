pub mod Gathered
pub mod Got
pub mod Sights
