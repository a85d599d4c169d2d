pub mod ColumnList
pub mod InsertTargets
pub mod IsNoted
pub mod Literals
pub mod NumberedColumns
pub mod Repeats
