pub mod Conditions
pub mod Lookups
pub mod Numbered
pub mod Only
