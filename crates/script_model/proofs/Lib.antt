pub mod Counts
pub mod InputCalls
pub mod TextBytes
