pub mod AreaFound
pub mod Fault
pub mod Opening
pub mod Parts
pub mod Records
pub mod Recovered
pub mod Undisturbed
