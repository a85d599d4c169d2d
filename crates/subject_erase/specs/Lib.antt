pub mod Flags
pub mod Followed
pub mod Marked
pub mod Staying
pub mod Erasures
pub mod Losing
pub mod Plan
