pub mod Shown
pub mod Touched
pub mod WeightAt
