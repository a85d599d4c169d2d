pub mod Hold
pub mod SessionItems
pub mod Locks
pub mod RepresentsItems
