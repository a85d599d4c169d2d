pub mod ColumnSetLemmas
pub mod CountLemmas
pub mod CycleLemmas
pub mod LeadsLemmas
pub mod OrderLemmas
pub mod RangeLemmas
pub mod ToldCycle
pub mod WalkLemmas
