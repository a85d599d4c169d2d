pub mod Escapes
pub mod Parts
pub mod Spaces
pub mod Within
