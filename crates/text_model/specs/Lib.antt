pub mod Canonical
pub mod Condition
pub mod Lines
pub mod Refused
pub mod Shown
pub mod Words
