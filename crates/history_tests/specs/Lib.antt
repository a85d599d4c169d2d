pub mod Stores
pub mod Told
pub mod Written
