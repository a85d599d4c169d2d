pub mod Condition
pub mod Create
pub mod Judges
pub mod Reader
pub mod Rules
pub mod Select
pub mod Statements
pub mod Whole
