pub mod ByEdges
pub mod Gathered
pub mod Leading
pub mod Links
pub mod Sets
pub mod IsSortedSet
pub mod SubjectOrder
pub mod WhichSets
