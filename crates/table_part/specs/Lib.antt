pub mod KeyIn
pub mod Lent
pub mod Part
