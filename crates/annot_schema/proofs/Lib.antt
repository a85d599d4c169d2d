pub mod EdgesWithin
pub mod OwnedRows
pub mod OwnedTables
pub mod RuleNames
pub mod SoundSchemas
pub mod ViewedSchemas
