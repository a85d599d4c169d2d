pub mod Agree
pub mod Insert
pub mod Items
pub mod Run
pub mod Update
