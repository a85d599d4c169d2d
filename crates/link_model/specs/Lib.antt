pub mod Holds
pub mod Indexed
pub mod Whose
