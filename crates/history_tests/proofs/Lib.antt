pub mod Computing
pub mod Conditions
pub mod KeyedReads
pub mod KeyedSelect
pub mod KeyedUpdate
pub mod Steps
pub mod Texts
