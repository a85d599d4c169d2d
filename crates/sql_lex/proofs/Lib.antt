pub mod Fillers
pub mod FirstByte
pub mod Keywords
pub mod Marks
pub mod Nexts
pub mod Once
pub mod Quotes
pub mod Words
