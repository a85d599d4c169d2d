pub mod ColumnLists
pub mod Given
pub mod LongLists
pub mod NumberedColumns
pub mod Pairs
pub mod Ranks
mod RisingKeys
pub mod SetTwice
pub mod Twice
