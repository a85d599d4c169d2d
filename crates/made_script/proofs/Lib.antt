pub mod AskMore
pub mod Numbering
pub mod Tallying
pub mod Telling
