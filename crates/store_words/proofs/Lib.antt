mod ClapOnWords
pub mod InRange
mod Modes
mod Numerals
