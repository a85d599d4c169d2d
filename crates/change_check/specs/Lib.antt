pub mod CellOrder
pub mod Rule
pub mod Least
pub mod Came
pub mod Holders
pub mod Shared
pub mod Dangling
pub mod Unowned
