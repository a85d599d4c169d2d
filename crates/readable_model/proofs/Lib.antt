pub mod Literals
pub mod Sources
pub mod Within
