pub mod Gated
pub mod Reading
