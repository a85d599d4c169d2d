pub mod After
pub mod Lent
pub mod Reported
