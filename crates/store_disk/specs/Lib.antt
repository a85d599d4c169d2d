pub mod Kept
pub mod OpensAt
