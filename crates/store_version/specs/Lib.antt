pub mod AreFew
pub mod Added
pub mod Parts
