pub mod AbsentColumns
