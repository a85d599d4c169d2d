pub mod Named
pub mod NetFollows
pub mod Texts
