pub mod On
pub mod OwnFaults
pub mod Rows
pub mod Star
