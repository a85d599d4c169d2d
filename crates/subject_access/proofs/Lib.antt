pub mod BoundSubjects
pub mod CellLemmas
pub mod GetLemmas
pub mod ShownLemmas
