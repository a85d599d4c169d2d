pub mod Above
pub mod ChangeAt
pub mod Lost
pub mod OwnIn
pub mod Refers
pub mod Sought
pub mod Told
pub mod Upper
