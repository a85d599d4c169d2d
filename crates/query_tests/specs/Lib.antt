pub mod KeyRef
