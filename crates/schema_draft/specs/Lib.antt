pub mod Lent
pub mod Parts
pub mod Names
pub mod EdgeColumn
