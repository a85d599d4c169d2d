pub mod ColumnCounts
pub mod EdgeLists
pub mod Lookups
pub mod NameLookups
pub mod Targets
pub mod RuledSets
