pub mod Columns
pub mod Line
pub mod Refused
pub mod Rows
pub mod Values
pub mod Wording
