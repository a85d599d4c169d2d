pub mod Asked
pub mod CallText
pub mod Numbered
pub mod Piece
pub mod Script
pub mod Session
pub mod Split
pub mod Stretch
