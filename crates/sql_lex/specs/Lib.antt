pub mod Bytes
pub mod Filler
pub mod Keywords
pub mod Lexing
pub mod Tokens
