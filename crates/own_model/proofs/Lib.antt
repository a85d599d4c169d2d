pub mod KeyOrder
pub mod OneOrder
