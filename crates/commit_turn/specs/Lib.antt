pub mod Flags
pub mod HeldWith
pub mod Kept
pub mod Passes
pub mod Rule
pub mod Steps
