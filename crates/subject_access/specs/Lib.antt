pub mod Cells
pub mod Shown
