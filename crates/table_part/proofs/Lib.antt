pub mod AnyOrder
pub mod KeyLemmas
pub mod SortedChanges
