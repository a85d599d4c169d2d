pub mod Asking
pub mod Tallied
